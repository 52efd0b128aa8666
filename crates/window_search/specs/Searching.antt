-- What the window search gives, over the tables of a list of positions: the starts and the windows of the model, whatever way they were found. Assumes nothing.
use Rattle.std.specs.Prelude.{◌≡◌, Bool, true, false, List, reverse, ℕ, suc, ◌+◌, ◌-◌, ◌*◌, ◌^◌, ◌≤◌, ◌<◌, length, get_or}
use Rattle.std.proofs.lemmas.List.Edits.{sets}
use Rattle.model.specs.Occurrence.{Position, shortest, all_from, is_start, starts}
use Rattle.model.specs.NumberedAnswers.{overwrite}
use Rattle.model.specs.WindowSearch.{Inhabited, window_at, shift, windows_from, windows, part_from}
use Rattle.model.specs.WindowSearch as WindowSearch
use Rattle.shift_and.specs.Automaton.{Automaton}
use Rattle.shift_and.specs.Masks.{Encodes}
use Rattle.window_search.specs.declared.Tried.{Tried}
use Rattle.window_search.specs.declared.Tried.TheVariants.{Start, Empty, Spent}
use Rattle.window_search.specs.declared.Part.{Part}
use Rattle.window_search.specs.declared.Found.{Found}
use Rattle.answers.specs.declared.Span.{Span}

-- ---- a prepared rule: its automata for each direction, and its shortest length

-- They are the automata of the positions, for each direction.
pub record Mirrors (ps : List Position) (B : Automaton) (size : ℕ) : Type 0 where
  pub inhabited : Inhabited ps
  pub some : 1 ≤ shortest ps
  pub is-shortest : size ≡ shortest ps
  pub backward : Encodes B (reverse ps)

pub record RuleOf (ps : List Position) (F B : Automaton) (size : ℕ) : Type 0 where
  pub mirrors : Mirrors ps B size
  pub onward : Encodes F ps

-- ---- one window

-- what verifying may read beyond twice the way to a window
abbrev pub spare : ℕ
spare = 4096

-- so many bytes have been read in verifying before window w
pub record Spends (len w spent : ℕ) : Type 0 where
  pub within : w ≤ len
  pub small : len < 2 ^ 32
  pub budget : spent ≤ 2 * w + spare

pub record Allowed (len w spent r : ℕ) : Type 0 where
  pub from : w ≤ r
  pub inside : r ≤ len
  pub budget : r + spent ≤ 3 * w + spare

-- verification alone: the shift j is handed on
abbrev pub VerifyFits : (w j : ℕ) → Tried → Type 0
VerifyFits w j (Start i s) = (i ≡ j) × (s ≤ 2 * w + spare)
VerifyFits w j (Empty i s) = (i ≡ j) × (s ≤ 2 * w + spare)
VerifyFits w j Spent = Unit {0}

abbrev pub VerifyMeans : List Position → List ℕ → (w : ℕ) → Tried → Type 0
VerifyMeans ps text w (Start i s) = is_start ps text w ≡ true
VerifyMeans ps text w (Empty i s) = is_start ps text w ≡ false
VerifyMeans ps text w Spent = Unit {0}

pub record VerifiedIs (F : Automaton) (text : List ℕ) (w j : ℕ) (x : Tried) : Type 0 where
  pub fits : VerifyFits w j x
  pub means : (ps : List Position) → Encodes F ps → 1 ≤ shortest ps → VerifyMeans ps text w x

abbrev pub TryFits : (size w : ℕ) → Tried → Type 0
TryFits size w (Start j s) = (1 ≤ j) × (j ≤ size) × (s ≤ 2 * w + spare)
TryFits size w (Empty j s) = (1 ≤ j) × (j ≤ size) × (s ≤ 2 * w + spare)
TryFits size w Spent = Unit {0}

abbrev pub TryMeans : List Position → List ℕ → (w : ℕ) → Tried → Type 0
TryMeans ps text w (Start j s) = (j ≡ shift ps (window_at ps text w)) × (is_start ps text w ≡ true)
TryMeans ps text w (Empty j s) = (j ≡ shift ps (window_at ps text w)) × (is_start ps text w ≡ false)
TryMeans ps text w Spent = Unit {0}

pub record TriedIs (F B : Automaton) (size : ℕ) (text : List ℕ) (w : ℕ) (x : Tried) : Type 0 where
  pub fits : TryFits size w x
  pub means : (ps : List Position) → RuleOf ps F B size → TryMeans ps text w x

-- where it says yes, the table knows no position of the window's last byte
pub record LastByteAbsent (table : ℕ → ℕ) (size : ℕ) (text : List ℕ) (w : ℕ) (r : Bool) : Type 0 where
  pub says : r ≡ true → table (get_or text (w + size - 1) 0) ≡ 0

-- ---- the windows from w on

pub record TriesIs (B : Automaton) (size : ℕ) (text : List ℕ) (w k : ℕ) : Type 0 where
  pub few : k + w ≤ length text
  pub means : (ps : List Position) → Mirrors ps B size → k ≡ length (windows_from (suc (length text)) ps text w)

-- The starts from a place on, rising: from 0 on they are `starts ps text`.
abbrev pub rest_starts : List Position → List ℕ → (w : ℕ) → List ℕ
rest_starts ps text w = all_from (is_start ps text) w (suc (length text) - w)

-- k windows from w₀ on, up to w, are passed over: no occurrence starts from there up to w.
pub record SkippedIs (B : Automaton) (size : ℕ) (text : List ℕ) (w₀ w k : ℕ) : Type 0 where
  pub within : w ≤ length text
  pub few : k + w₀ ≤ w
  pub tries : (ps : List Position) → Mirrors ps B size
      → k + length (windows_from (suc (length text)) ps text w) ≡ length (windows_from (suc (length text)) ps text w₀)
  pub none : (ps : List Position) → Mirrors ps B size → rest_starts ps text w ≡ rest_starts ps text w₀

-- ---- a part of the search: up to window w, which is still to be tried

-- What is left to do leads to the whole: l₀ is the list at the beginning, l the list now.
pub record Rest (ps : List Position) (text l₀ : List ℕ) (w count tried : ℕ) (l : List ℕ) : Type 0 where
  pub starts-left : count + length (rest_starts ps text w) ≡ length (starts ps text)
  pub windows-left : tried + length (windows_from (suc (length text)) ps text w) ≡ length (windows ps text)
  pub list : sets l count (rest_starts ps text w) ≡ sets l₀ 0 (starts ps text)

pub record PartIs (F B : Automaton) (size : ℕ) (text l₀ : List ℕ) (p : Part) (l : List ℕ) : Type 0 where
  pub within : p.next ≤ length text
  pub few : p.count ≤ p.next
  pub tries : p.windows ≤ p.next
  pub long : length l ≡ length l₀
  pub rest : (ps : List Position) → RuleOf ps F B size → Rest ps text l₀ p.next p.count p.windows l

-- ---- the whole search

pub record SearchFits (len listed : ℕ) : Type 0 where
  pub small : len < 2 ^ 32
  pub room : len ≤ listed

-- the result, and the list at exit: the starts at its front, and untouched after them
pub record Searched (ps : List Position) (text l₀ : List ℕ) (r : Found) (l : List ℕ) : Type 0 where
  pub count : r.count ≡ length (starts ps text)
  pub windows : r.windows ≡ length (windows ps text)
  pub list : l ≡ overwrite l₀ (starts ps text)

pub record SearchedIs (F B : Automaton) (size : ℕ) (text l₀ : List ℕ) (r : Found) (l : List ℕ) : Type 0 where
  pub few : r.count ≤ length text
  pub tries : r.windows ≤ length text
  pub long : length l ≡ length l₀
  pub means : (ps : List Position) → RuleOf ps F B size → Searched ps text l₀ r l

-- ---- the part that is shown

abbrev pub span_of : WindowSearch.Part → Span
span_of p = record { from = p.from; to = p.to }

pub record SpanIs (F : Automaton) (text : List ℕ) (s : ℕ) (r : Span) : Type 0 where
  pub ordered : r.from ≤ r.to
  pub inside : r.to ≤ length text
  pub means : (ps : List Position) → Encodes F ps → 1 ≤ shortest ps → r ≡ span_of (part_from ps text s)
