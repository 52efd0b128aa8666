-- Places of a text that pass a test, and what it is to have searched for them. Assumes nothing.
use Rattle.std.specs.Prelude.{◌≡◌, Bool, false, not, List, ℕ, ◌≤◌, ◌<◌, eqb, get_or}
use Rattle.std.specs.Int.Bits.{bit_and}

-- None of the places from i up to r passes the test; `end` bounds r.
pub record NoneBefore (f : ℕ → Bool) (i end r : ℕ) : Type 0 where
  pub fore : i ≤ r
  pub within : r ≤ end
  pub none : (j : ℕ) → i ≤ j → j < r → f j ≡ false

-- The same of a test that code asks, a closure: at each of those places a call of it may give `false`.
pub record NoneFound (gives : ℕ → Bool → Type 0) (i end r : ℕ) : Type 0 where
  pub fore : i ≤ r
  pub within : r ≤ end
  pub none : (j : ℕ) → i ≤ j → j < r → gives j false

-- ---- the tests

-- the byte at k is x
abbrev pub same : (text : List ℕ) (x k : ℕ) → Bool
same text x k = eqb (get_or text k 0) x

-- the entry of byte c in a table meets the word `next`
abbrev pub meets : (table : List ℕ) (next c : ℕ) → Bool
meets table next c = not (eqb (bit_and (get_or table c 0) next) 0)
