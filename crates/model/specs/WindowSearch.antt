-- Document 01, "Window search": windows, the published shift, the sequence of windows, and the part that is shown. Assumes nothing.
use Rattle.std.specs.Prelude.{◌≡◌, Bool, true, false, cond, ◌&&◌, ◌||◌, List, [], ◌∷◌, ◌++◌, ℕ, zero, suc, ◌+◌, ◌-◌, ◌≤◌, ◌<◌, T, leb, ltb, length, take, drop}
use Rattle.model.specs.Occurrence.{Position, all, Occurs, stretch, StartsAt, shortest, any_from, is_share, is_empty, is_occurrence, is_start}
use Rattle.model.specs.RuleText.{is_byte, fold_flag, positions}
use Rattle.model.specs.NumberedAnswers.{text_limit, Parsed, refused, accepted, parse}

-- "Window w covers the m bytes from w."
abbrev pub window_at : List Position → List ℕ → (w : ℕ) → List ℕ
window_at ps text w = take (shortest ps) (drop w text)

-- Bytes "begin some string the rule admits".
abbrev pub Begins : List Position → List ℕ → Type 0
Begins ps u = (w : List ℕ) × Occurs ps (u ++ w)

-- Every position's set is so.
abbrev pub EachSet : ((ℕ → Bool) → Type 0) → List Position → Type 0
EachSet P [] = Unit {0}
EachSet P (p ∷ ps) = P p.set × EachSet P ps

-- Every position admits some byte, as those of an accepted rule do: no class is left with none.
abbrev pub HasByte : (ℕ → Bool) → Type 0
HasByte s = (c : ℕ) × T (s c)

abbrev pub Inhabited : List Position → Type 0
Inhabited ps = EachSet HasByte ps

-- The same as a test, where every position admits some byte: the bytes are cut into shares of the first positions, and once they are all placed, the
-- positions that are left can be filled.
abbrev pub is_beginning : List Position → List ℕ → Bool
is_beginning [] u = is_empty u
is_beginning (p ∷ ps) u = is_empty u || any_from (λ k. is_share p (take k u) && is_beginning ps (drop k u)) 0 (suc (length u))

-- The least of the n numbers from i on that passes a test, or another number if none does.
abbrev pub least_from : (ℕ → Bool) → (i n other : ℕ) → ℕ
least_from f i zero other = other
least_from f i (suc n) other = elim (f i) [ true ↦ i | false ↦ least_from f (suc i) n other ]

-- "The published shift of a window is the least j from 1 to m − 1 such that the window's bytes from j on begin some string the rule admits, or m if
-- there is none."
abbrev pub shift : List Position → (window : List ℕ) → ℕ
shift ps window = least_from (λ j. is_beginning ps (drop j window)) 1 (shortest ps - 1) (shortest ps)

-- The same sentence as a statement (`shift_is` of proofs/).
pub record ShiftIs (ps : List Position) (window : List ℕ) (j : ℕ) : Type 0 where
  pub least : 1 ≤ j
  pub most : j ≤ shortest ps
  pub begins : j < shortest ps → Begins ps (drop j window)
  pub none_before : (i : ℕ) → 1 ≤ i → i < j → Begins ps (drop i window) → ⊥

-- "The sequence is 0, then always w plus the shift of w, as long as w + m ≤ text length, the first included." Each shift is at least 1, so that
-- there are no more windows than places: the bound ends only the recursion (`windows-bound` of proofs/).
abbrev pub windows_from : (bound : ℕ) → List Position → List ℕ → (w : ℕ) → List ℕ
windows_from zero ps text w = []
windows_from (suc n) ps text w = elim (leb (w + shortest ps) (length text)) [
  | true ↦ w ∷ windows_from n ps text (w + shift ps (window_at ps text w))
  | false ↦ []
]

abbrev pub windows : List Position → List ℕ → List ℕ
windows ps text = windows_from (suc (length text)) ps text 0

-- The same sentence as a statement: these are the windows from w on (`windows_are` of proofs/).
abbrev pub WindowsAre : List Position → (text : List ℕ) (w : ℕ) → List ℕ → Type 0
WindowsAre ps text w [] = length text < w + shortest ps
WindowsAre ps text w (v ∷ vs) = (v ≡ w) × (w + shortest ps ≤ length text) × WindowsAre ps text (w + shift ps (window_at ps text w)) vs

-- ---- what move can be made on a window's bytes alone

-- A move of k is safe on them: "The move from w, the last one too, passes over the starts strictly between w and w plus" k, "and none of these begins an
-- occurrence in any text with this window at w." The text is any bytes, as many as one likes: "the text limit aside".
abbrev pub Safe : List Position → (window : List ℕ) (k : ℕ) → Type 0
Safe ps window k = (text : List ℕ) → T (all is_byte text) → (w : ℕ) → window_at ps text w ≡ window → (i : ℕ) → 1 ≤ i → i < k → StartsAt ps text (w + i) → ⊥

-- Of a window and its shift j (`shift-largest` of proofs/).
pub record LargestMove (ps : List Position) (window : List ℕ) (j : ℕ) : Type 0 where
  pub safe : Safe ps window j
  -- "some bytes after the window would give an occurrence starting j bytes past the window's start": these, whatever stands before the window
  pub after : List ℕ
  pub after-bytes : T (all is_byte after)
  pub starts : (before : List ℕ) → StartsAt ps (before ++ window ++ after) (length before + j)
  -- "j is then the largest move that can be made on the window's bytes alone"
  pub largest : (k : ℕ) → Safe ps window k → k ≤ j

-- ---- what is shown

-- "the earliest end there": the least end of an occurrence from s.
abbrev pub earliest_end : List Position → List ℕ → (s : ℕ) → ℕ
earliest_end ps text s = least_from (λ e. is_occurrence ps (stretch text s e)) s (suc (length text) - s) (length text)

-- "it hands back that part of the caller's text from the start to the earliest end there, or the empty part at the text's end if the rule is
-- refused, the text is over its limit, the start is past the text, or nothing starts there": the part, as its two places.
pub record Part : Type 0 where
  pub from : ℕ
  pub to : ℕ

abbrev pub empty_part : List ℕ → Part
empty_part text = record { from = length text; to = length text }

abbrev pub part_from : List Position → List ℕ → (s : ℕ) → Part
part_from ps text s = elim (is_start ps text s) [
  | true ↦ record { from = s; to = earliest_end ps text s }
  | false ↦ empty_part text
]

abbrev pub part_by : Bool → Parsed → List ℕ → (s : ℕ) → Part
part_by fold (refused n p) text s = empty_part text
part_by fold (accepted es) text s = cond (ltb text_limit (length text)) (empty_part text) (part_from (positions fold es) text s)

abbrev pub shown : (flag : ℕ) (rule text : List ℕ) (s : ℕ) → Part
shown flag rule text s = part_by (fold_flag flag) (parse (fold_flag flag) rule) text s
