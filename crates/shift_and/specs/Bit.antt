-- A number's bits, lowest first, as truth values; and the subtraction of one row of bits from another, with the borrow that passes upwards.
-- A row of bits is a function of the index, `ℕ → Bool`: `bit x` is the row of x, and has no end. Assumes nothing.
use Rattle.std.specs.Prelude.{ℕ, zero, suc, ◌+◌, ◌/◌, ◌%◌, Bool, true, false, not, ◌&&◌, ◌||◌}
use Rattle.model.specs.Occurrence.{one_if}

-- a binary digit as a truth value
abbrev pub is_set : ℕ → Bool
is_set zero = false
is_set (suc n) = true

-- the two differ
abbrev pub differs : Bool → Bool → Bool
differs false y = y
differs true y = not y

-- Bit j of x: its remainder by 2, after j halvings.
unfoldable pub bit : ℕ → ℕ → Bool
bit x zero = is_set (x % 2)
bit x (suc j) = bit (x / 2) j

-- how many of a row's bits below w are set
unfoldable pub count : (ℕ → Bool) → ℕ → ℕ
count x zero = 0
count x (suc w) = count x w + one_if (x w)

-- ---- the subtraction x - y of rows, with a borrow c into bit 0

-- what one digit of it lends to the next: 1 where x is below y + c
abbrev pub lend : Bool → Bool → Bool → Bool
lend false y c = y || c
lend true y c = y && c

-- the borrow into bit j: so the borrow that w bits leave is `borrow c x y w`
unfoldable pub borrow : Bool → (ℕ → Bool) → (ℕ → Bool) → ℕ → Bool
borrow c x y zero = c
borrow c x y (suc j) = lend (x j) (y j) (borrow c x y j)

-- bit j of the difference
unfoldable pub minus : Bool → (ℕ → Bool) → (ℕ → Bool) → ℕ → Bool
unfolding borrow
minus c x y j = differs (x j) (differs (y j) (borrow c x y j))
