-- What a prefilter promises of a rule's table t, its masks and the number of its top position. Assumes nothing.
use Rattle.std.specs.Prelude.{◌≡◌, ℕ, ◌+◌, ◌-◌, ◌*◌, ◌%◌, ◌^◌, ◌<◌, ◌≤◌, Bool, true, false, ◌&&◌, List, ◌≢◌, bit_and, bit_or, nat_le, slice_index}
use Rattle.shift_and.specs.Bit.{bit}
use Rattle.shift_and.specs.ForwardStep.{opening, top_bit}
use Rattle.prefilter.specs.declared.BytePair.{BytePair}
use Rattle.prefilter.specs.declared.Skip.{Skip}
use Rattle.prefilter.specs.declared.Skip.TheVariants.{Nothing, Byte, Range, Pair}
use Rattle.prefilter.specs.declared.Prefilter.{Prefilter}

-- `start` is the start state, where no end is reported, and `next` what a byte can take it to, or keep it at.
pub record StartState (repeats optional top start next : ℕ) : Type 0 where
  pub opens : start ≡ opening 64 optional
  pub goes : next ≡ bit_or (start * 2 % 2 ^ 64) (bit_and start repeats)
  pub silent : top_bit top start ≡ false

-- Every byte whose entry meets `next` is from lo to hi.
pub record AllInRange (t : List ℕ) (next lo hi : ℕ) : Type 0 where
  pub none : (c : ℕ) → (nat_le lo c && nat_le c hi) ≡ false → bit_and (slice_index t c) next ≡ 0

-- The positions up to b + 1 are plain, no end is reported below them, position a + 1 admits x alone, and position b + 1 y alone.
pub record PairSound (t : List ℕ) (repeats optional top a b x y : ℕ) : Type 0 where
  pub order : a < b
  pub high : b + 2 < 64
  pub word : optional < 2 ^ 64
  pub plain : bit_and (bit_or optional repeats) (2 ^ (b + 2) - 1) ≡ 0
  pub above : b + 1 ≤ top
  pub first : (c : ℕ) → (c ≢ x) → bit (slice_index t c) (a + 1) ≡ false
  pub second : (c : ℕ) → (c ≢ y) → bit (slice_index t c) (b + 1) ≡ false

-- what each way to skip asks of the start state and the word `next`
pub record SkipSound (t : List ℕ) (repeats optional top start next : ℕ) (s : Skip) : Type 0 where
  pub starts : (s ≢ Nothing) → StartState repeats optional top start next
  pub byte : (x : ℕ) → s ≡ Byte x → AllInRange t next x x
  pub range : (lo hi : ℕ) → s ≡ Range lo hi → AllInRange t next lo hi
  pub one : (p : BytePair) → s ≡ Pair p → start ≡ 1
  pub pair : (p : BytePair) → s ≡ Pair p → PairSound t repeats optional top p.a p.b p.x p.y

pub record PrefilterSound (t : List ℕ) (repeats optional top : ℕ) (p : Prefilter) : Type 0 where
  pub skips : SkipSound t repeats optional top p.start p.next p.skip
  pub clear : p.clear ≡ true → (c : ℕ) → bit (slice_index t c) 63 ≡ false

-- ---- the tests that a pair passes: what each says where it says yes

-- w has every bit of the entries from lo up to hi
pub record Union (t : List ℕ) (lo hi w : ℕ) : Type 0 where
  pub all : (c : ℕ) → lo ≤ c → c < hi → (j : ℕ) → bit w j ≡ false → bit (slice_index t c) j ≡ false

-- it has every bit of all the entries but those of x and y
pub record UnionWithout (t : List ℕ) (x y w : ℕ) : Type 0 where
  pub all : (c : ℕ) → (c ≢ x) → (c ≢ y) → (j : ℕ) → bit w j ≡ false → bit (slice_index t c) j ≡ false

-- neither w nor y's entry has bit p
pub record ClearBit (t : List ℕ) (w p y : ℕ) (r : Bool) : Type 0 where
  pub word : r ≡ true → bit w p ≡ false
  pub entry : r ≡ true → bit (slice_index t y) p ≡ false

-- the masks leave the positions up to b + 1 plain and silent
pub record LiteralPrefix (repeats optional top a b : ℕ) (r : Bool) : Type 0 where
  pub order : r ≡ true → a < b
  pub high : r ≡ true → b + 2 < 64
  pub word : r ≡ true → optional < 2 ^ 64
  pub free : r ≡ true → bit_and (bit_or optional repeats) (2 ^ (b + 2) - 1) ≡ 0
  pub above : r ≡ true → b + 1 ≤ top
