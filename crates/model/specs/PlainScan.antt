-- Document 01, "Plain scan", with rows 9, 10 and 12 of "Numbered answers" for the scan calls: what a list of calls must answer. Assumes nothing.
use Rattle.std.specs.Prelude.{Bool, true, false, cond, List, [], ◌∷◌, ◌++◌, ℕ, zero, suc, ◌+◌, ◌-◌, ◌*◌, ltb, length}
use Rattle.model.specs.Occurrence.{Position, is_end, all_from}
use Rattle.model.specs.RefusalNumbers.{too_short, too_much, already_finished}
use Rattle.model.specs.RuleText.{fold_flag}
use Rattle.model.specs.NumberedAnswers.{text_limit}
use Rattle.model.specs.Codes.{smudged}
use Rattle.model.specs.References.{form_limit, held_most, tokens_from, decode, without_tail}
use Rattle.model.specs.RawPlaces.{Entry, entries_by, pair_numbers}

-- "each call's kind, its piece if it is a feed, and its lent list's length: no answer and no scan value"
pub data Call : Type 0 where
  feed : (piece : List ℕ) (list_length : ℕ) → Call
  finish : (list_length : ℕ) → Call

pub data Answer : Type 0 where
  refused : (number : ℕ) → Answer
  reported : (entries : List Entry) → Answer

-- "It keeps P, the bytes taken, empty at first, and whether it has finished."
pub record Kept : Type 0 where
  pub taken : List ℕ
  pub finished : Bool

abbrev pub nothing_kept : Kept
nothing_kept = record { taken = []; finished = false }

-- "P, without its held tail as long as it has not finished"
abbrev pub read_of : (limit : ℕ) → Kept → List ℕ
read_of limit k = cond k.finished k.taken (without_tail limit k.taken)

-- "Its text is what" that "decodes to".
abbrev pub text_of : (limit : ℕ) → Kept → List ℕ
text_of limit k = decode limit (read_of limit k)

abbrev pub piece_of : Call → List ℕ
piece_of (feed piece n) = piece
piece_of (finish n) = []

abbrev pub list_of : Call → ℕ
list_of (feed piece n) = n
list_of (finish n) = n

-- "Needed lengths: .. feed list, the piece's length plus 31 pairs; finish list, 31 pairs", "a pair being two numbers".
abbrev pub needed : (limit piece : ℕ) → ℕ
needed limit piece = pair_numbers * (piece + held_most limit)

-- "A call is refused by 12 if it has finished, else by 10 if P and the piece together are over the limit, else by 9 if the lent list is shorter than
-- needed": the number for a piece and a list of these lengths after `taken` bytes, or 0.
abbrev pub refusal_for : (limit : ℕ) (finished : Bool) (taken piece list : ℕ) → ℕ
refusal_for limit finished taken piece list =
    cond finished already_finished
    (cond (ltb text_limit (taken + piece)) too_much
    (cond (ltb list (needed limit piece)) too_short
    0))

abbrev pub refusal : (limit : ℕ) (finished : Bool) (taken : ℕ) → Call → ℕ
refusal limit finished taken c = refusal_for limit finished taken (length (piece_of c)) (list_of c)

-- "Otherwise a feed adds its piece to P, and a finish makes it finished."
abbrev pub after : Call → Kept → Kept
after (feed piece n) k = record { taken = k.taken ++ piece; finished = false }
after (finish n) k = record { taken = k.taken; finished = true }

-- "every end of an occurrence in the new text that is greater than the old text's length, once each, rising"
abbrev pub new_ends : List Position → (old new : List ℕ) → List ℕ
new_ends ps old new = all_from (is_end ps new) (suc (length old)) (length new - length old)

-- Each of them "with the raw count just past the byte or the whole reference that gave it".
abbrev pub new_entries : (limit : ℕ) → List Position → Kept → Call → List Entry
new_entries limit ps k c = entries_by 0 0 (tokens_from limit 0 (read_of limit (after c k))) (new_ends ps (text_of limit k) (text_of limit (after c k)))

-- "nothing then changes and no end is given. Otherwise .. the answer is then" the new ends, as pairs.
abbrev pub scan_from : (limit : ℕ) → List Position → Kept → List Call → List Answer
scan_from limit ps k [] = []
scan_from limit ps k (c ∷ cs) = elim (refusal limit k.finished (length k.taken) c) [
  | zero ↦ reported (new_entries limit ps k c) ∷ scan_from limit ps (after c k) cs
  | suc n ↦ refused (suc n) ∷ scan_from limit ps k cs
]

-- "It is fed the accepted rule (one that no rule check refuses) and fold flag, and beside them the accepted codes and their sets, then each call's kind, its piece if
-- it is a feed, and its lent list's length".
abbrev pub plain_scan : (flag : ℕ) (rule codes sets : List ℕ) → List Call → List Answer
plain_scan flag rule codes sets cs = scan_from form_limit (smudged (fold_flag flag) rule codes sets) nothing_kept cs

-- "The ends reported are those of all the calls in order", pairs.
abbrev pub reported_entries : List Answer → List Entry
reported_entries [] = []
reported_entries (refused n ∷ rest) = reported_entries rest
reported_entries (reported es ∷ rest) = es ++ reported_entries rest

-- What is kept after a list of calls. "With the accepted finish, P is the finished plan."
abbrev pub kept_after : (limit : ℕ) → Kept → List Call → Kept
kept_after limit k [] = k
kept_after limit k (c ∷ cs) = elim (refusal limit k.finished (length k.taken) c) [
  | zero ↦ kept_after limit (after c k) cs
  | suc n ↦ kept_after limit k cs
]
