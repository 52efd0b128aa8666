-- Note 7: ends that become pairs, each end with its raw count. Assumes nothing.
use Rattle.std.specs.Prelude.{◌≡◌, List, ℕ, suc, ◌+◌, ◌-◌, ◌*◌, ◌^◌, ◌≤◌, ◌<◌, length, get_or, set, take}
use Rattle.std.proofs.lemmas.List.Edits.{sets}
use Rattle.model.specs.RawPlaces.{placed, pair_numbers, flat}
use Rattle.entry_list.specs.Marks.{mark_numbers, marked_place}

-- The raw count of the end e, where the bytes went out as they came: `at` decoded bytes and `raw` raw ones stand before them.
abbrev pub even_place : (at raw : ℕ) → ℕ → ℕ
even_place at raw e = raw + (e - at)

-- The same where `count` marks are those of the bytes.
abbrev pub uneven_place : (at raw : ℕ) (marks : List ℕ) (count : ℕ) → ℕ → ℕ
uneven_place at raw marks count e = raw + marked_place marks count (e - at)

-- `put_pair`
pub record PairIs (j e place : ℕ) (ends ends' : List ℕ) : Type 0 where
  pub list : ends' ≡ set (set ends (j * pair_numbers) e) (j * pair_numbers + 1) place
  pub long : length ends' ≡ length ends

-- `pair_evenly`, `pair_unevenly`: the first k numbers of the list become pairs; past these it is as it was
pub record Paired (place : ℕ → ℕ) (k : ℕ) (ends ends' : List ℕ) : Type 0 where
  pub list : ends' ≡ sets ends 0 (flat (placed place (take k ends)))
  pub long : length ends' ≡ length ends

-- ---- bytes that went out as they came

-- `even_place`: the end is past `at`, and its raw count is a number of 32 bits
pub record Near (at raw e : ℕ) : Type 0 where
  pub past : at < e
  pub small : raw + (e - at) < 2 ^ 32

-- `pair_evenly`: there is room for k pairs, and the first k numbers are such ends
pub record EvenFits (at raw k : ℕ) (l : List ℕ) : Type 0 where
  pub room : k * pair_numbers ≤ length l
  pub all : (j : ℕ) → j < k → Near at raw (get_or l j 0)

-- ---- bytes with marks

-- the first k numbers are ends past `at`, not past at + n, and rise
pub record RisingEnds (at n k : ℕ) (l : List ℕ) : Type 0 where
  pub past : (j : ℕ) → j < k → at < get_or l j 0
  pub near : (j : ℕ) → j < k → get_or l j 0 ≤ at + n
  pub rise : (j : ℕ) → suc j < k → get_or l j 0 ≤ get_or l (suc j) 0

-- `pair_unevenly`: there is room for k pairs of such ends, the marks are there, and each raw count is a number of 32 bits
pub record UnevenFits (at raw : ℕ) (marks : List ℕ) (count k : ℕ) (l : List ℕ) : Type 0 where
  pub room : k * pair_numbers ≤ length l
  pub past : (j : ℕ) → j < k → at < get_or l j 0
  pub rise : (j : ℕ) → suc j < k → get_or l j 0 ≤ get_or l (suc j) 0
  pub inside : mark_numbers * count ≤ length marks
  pub small : (j : ℕ) → j < k → raw + marked_place marks count (get_or l j 0 - at) < 2 ^ 32
