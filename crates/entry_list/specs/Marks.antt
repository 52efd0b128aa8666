-- Marks, by which code has raw places: one for each reference among some decoded bytes, three numbers: how many bytes stand before its own, how many up to and including
-- them, and by how much the raw count is then ahead. Assumes nothing.
use Rattle.std.specs.Prelude.{◌≡◌, cond, List, ℕ, zero, suc, ◌+◌, ◌-◌, ◌*◌, ◌^◌, ◌≤◌, ◌<◌, ltb, length, get_or}
use Rattle.model.specs.References.{Token, taken, joined}
use Rattle.model.specs.RawPlaces.{places_by, place_in}

abbrev pub mark_numbers : ℕ
mark_numbers = 3

abbrev pub start_of : (marks : List ℕ) (i : ℕ) → ℕ
start_of marks i = get_or marks (mark_numbers * i) 0

abbrev pub after_of : (marks : List ℕ) (i : ℕ) → ℕ
after_of marks i = get_or marks (mark_numbers * i + 1) 0

abbrev pub ahead_of : (marks : List ℕ) (i : ℕ) → ℕ
ahead_of marks i = get_or marks (mark_numbers * i + 2) 0

abbrev pub larger_of : ℕ → ℕ → ℕ
larger_of a b = cond (ltb a b) b a

-- The raw count of an end after q bytes, by the last of m marks that starts before it: inside the reference it is the one after it. Where none does, the bytes are as they
-- came. Shut.
unfoldable pub marked_place : (marks : List ℕ) (m q : ℕ) → ℕ
marked_place marks zero q = q
marked_place marks (suc m) q = cond (ltb (start_of marks m) q) (larger_of q (after_of marks m) + ahead_of marks m) (marked_place marks m q)

-- The marks are those of the tokens: they tell the raw place of each byte that these give, and go on byte by byte after them.
pub record Marked (marks : List ℕ) (m : ℕ) (ts : List Token) : Type 0 where
  pub within : (q : ℕ) → 1 ≤ q → q ≤ length (joined ts) → marked_place marks m q ≡ place_in 0 (places_by 0 ts) q
  pub beyond : (q : ℕ) → length (joined ts) < q → marked_place marks m q ≡ taken ts + (q - length (joined ts))

-- `skip_marks`
pub record SkipIs (marks : List ℕ) (m q r : ℕ) : Type 0 where
  pub few : r ≤ m
  pub same : (x : ℕ) → x ≤ q → marked_place marks m x ≡ marked_place marks r x
  pub starts : (i : ℕ) → suc i ≡ r → start_of marks i < q

-- `marked_place`
pub record MarkFits (marks : List ℕ) (m q : ℕ) : Type 0 where
  pub room : mark_numbers * m ≤ length marks
  pub starts : (i : ℕ) → suc i ≡ m → start_of marks i < q
  pub small : marked_place marks m q < 2 ^ 32
