-- Document 01, "Occurrence": positions, shares and occurrences; the shortest length; and the tests that decide them by trying the cuts into
-- shares. `Decided` of proofs/ proves that each test decides its statement. Assumes nothing.
use Rattle.std.specs.Prelude.{Bool, true, false, not, ◌&&◌, ◌||◌, List, [], ◌∷◌, ◌++◌, ℕ, zero, suc, ◌+◌, ◌-◌, ◌≤◌, T, leb, length, take, drop}

-- A position of a rule: the bytes that fit it, whether it is optional, and whether it is repeatable. Without codes those of its set fit; `Codes` has the reading
-- with them.
pub record Position : Type 0 where
  pub set : ℕ → Bool
  pub optional : Bool
  pub repeats : Bool

-- Every byte of a list is in a set.
abbrev pub all : (ℕ → Bool) → List ℕ → Bool
all s [] = true
all s (c ∷ cs) = s c && all s cs

-- "A share is one byte that fits the position; it may be empty if the position is optional; it may be longer, all such bytes, if repeatable."
pub data Share (p : Position) : List ℕ → Type 0 where
  one : {c : ℕ} → T (p.set c) → Share p (c ∷ [])
  empty : T p.optional → Share p []
  longer : {c : ℕ} {cs : List ℕ} → T p.repeats → T (p.set c) → T (all p.set cs) → Share p (c ∷ cs)

-- A stretch "is an occurrence when it can be cut into consecutive shares, one for each position in order".
pub data Occurs : List Position → List ℕ → Type 0 where
  done : Occurs [] []
  next : {p : Position} {ps : List Position} {xs ys : List ℕ} → Share p xs → Occurs ps ys → Occurs (p ∷ ps) (xs ++ ys)

-- "A stretch of decoded bytes from start s (counted from 0) to end e (the count of bytes up to and including the last)".
abbrev pub stretch : List ℕ → ℕ → ℕ → List ℕ
stretch text s e = drop s (take e text)

-- There is an occurrence in the text from s to e; one that ends at e; one that starts at s.
pub record OccursAt (ps : List Position) (text : List ℕ) (s e : ℕ) : Type 0 where
  pub ordered : s ≤ e
  pub inside : e ≤ length text
  pub occurs : Occurs ps (stretch text s e)

abbrev pub EndsAt : List Position → List ℕ → ℕ → Type 0
EndsAt ps text e = (s : ℕ) × OccursAt ps text s e

abbrev pub StartsAt : List Position → List ℕ → ℕ → Type 0
StartsAt ps text s = (e : ℕ) × OccursAt ps text s e

-- "The shortest length, m, is the count of positions that are not optional".
abbrev pub one_if : Bool → ℕ
one_if true = 1
one_if false = 0

abbrev pub shortest : List Position → ℕ
shortest [] = 0
shortest (p ∷ ps) = one_if (not p.optional) + shortest ps

-- ---- the same as tests

-- Some number of the n from i on passes a test; all those that do, rising.
abbrev pub any_from : (ℕ → Bool) → (i n : ℕ) → Bool
any_from f i zero = false
any_from f i (suc n) = f i || any_from f (suc i) n

abbrev pub cons_if : Bool → ℕ → List ℕ → List ℕ
cons_if true i is = i ∷ is
cons_if false i is = is

abbrev pub all_from : (ℕ → Bool) → (i n : ℕ) → List ℕ
all_from f i zero = []
all_from f i (suc n) = cons_if (f i) i (all_from f (suc i) n)

-- `Share p xs`: no byte, one byte, more.
abbrev pub is_share : Position → List ℕ → Bool
is_share p [] = p.optional
is_share p (c ∷ []) = p.set c
is_share p (c ∷ d ∷ cs) = p.repeats && all p.set (c ∷ d ∷ cs)

-- `Occurs ps xs`: the first k bytes are a share of the first position, for some k, and the rest is cut for the other positions.
abbrev pub is_empty : List ℕ → Bool
is_empty [] = true
is_empty (c ∷ cs) = false

abbrev pub is_occurrence : List Position → List ℕ → Bool
is_occurrence [] xs = is_empty xs
is_occurrence (p ∷ ps) xs = any_from (λ k. is_share p (take k xs) && is_occurrence ps (drop k xs)) 0 (suc (length xs))

-- `EndsAt ps text e`: some start up to e.
abbrev pub is_end : List Position → List ℕ → ℕ → Bool
is_end ps text e = leb e (length text) && any_from (λ s. is_occurrence ps (stretch text s e)) 0 (suc e)

-- `StartsAt ps text s`: some end from s to the text's length.
abbrev pub is_start : List Position → List ℕ → ℕ → Bool
is_start ps text s = any_from (λ e. is_occurrence ps (stretch text s e)) s (suc (length text) - s)

-- All ends of occurrences in a text, and all starts, once each, rising.
abbrev pub ends : List Position → List ℕ → List ℕ
ends ps text = all_from (is_end ps text) 0 (suc (length text))

abbrev pub starts : List Position → List ℕ → List ℕ
starts ps text = all_from (is_start ps text) 0 (suc (length text))

-- "once each, rising", from i on
abbrev pub RisingFrom : ℕ → List ℕ → Type 0
RisingFrom i [] = Unit {0}
RisingFrom i (k ∷ ks) = (i ≤ k) × RisingFrom (suc k) ks
