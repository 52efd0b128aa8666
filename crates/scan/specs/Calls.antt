-- A call of the scan: what a feed and a finish answer and leave, for any scan value; and a list of calls, each handed what the one before it left. Assumes
-- nothing.
use Rattle.std.specs.Prelude.{◌≡◌, cond, List, [], ◌∷◌, ◌++◌, ℕ, zero, suc, ◌+◌, T, eqb, length}
use Rattle.model.specs.Occurrence.{all}
use Rattle.model.specs.RuleText.{is_byte}
use Rattle.model.specs.NumberedAnswers.{overwrite}
use Rattle.model.specs.References.{Token, byte_tokens, joined}
use Rattle.model.specs.RawPlaces.{Entry, entries_by, flat}
use Rattle.model.specs.PlainScan as Plain
use Rattle.model.specs.PlainScan.{Call, feed, finish, piece_of, list_of}
use Rattle.answers.specs.declared.Answer.{Answer}
use Rattle.answers.specs.Answers.{refusing, counting}
use Rattle.shift_and_wide.specs.Stepping.{state_after_w, ends_in_w}
use Rattle.piece_stepping.specs.Stepping.{tokens_of, tail_of}
use Rattle.scan_value.specs.Value.{automaton_in, state_in, raw_in, read_in, decoded_in, held_in, written, number_for}

-- ---- one call on scan value s

-- the refusal's number, or 0
abbrev pub number_of : (s : List ℕ) → Call → ℕ
number_of s c = number_for s (length (piece_of c)) (list_of c)

-- What it lets out: a feed the tokens of the held bytes and the piece, "the finish" the held bytes, as they came.
abbrev pub out_of : (s : List ℕ) → Call → List Token
out_of s (feed piece n) = tokens_of (held_in s ++ piece)
out_of s (finish n) = byte_tokens (held_in s)

-- What is held then.
abbrev pub tail_after : (s : List ℕ) → Call → List ℕ
tail_after s (feed piece n) = tail_of (held_in s ++ piece)
tail_after s (finish n) = []

abbrev pub finished_after : Call → ℕ
finished_after (feed piece n) = 0
finished_after (finish n) = 1

-- The pairs that it reports: document 01's step on each byte let out, and each end "with the raw count just past the byte or the whole reference that gave it".
abbrev pub entries_of : (s : List ℕ) → Call → List Entry
entries_of s c = entries_by (decoded_in s) (read_in s) (out_of s c) (ends_in_w (automaton_in s) (state_in s) (decoded_in s) (joined (out_of s c)))

-- The scan value that it leaves.
abbrev pub after : (s : List ℕ) → Call → List ℕ
after s c =
    written s (state_after_w (automaton_in s) (state_in s) (joined (out_of s c))) (finished_after c) (raw_in s + length (piece_of c)) (decoded_in s + length (joined (out_of s c))) (tail_after s c)

-- ---- contracts

-- An accepted call: the answer, the scan value and the list at exit.
pub record Taken (s : List ℕ) (c : Call) (ends : List ℕ) (r : Answer) (s' ends' : List ℕ) : Type 0 where
  pub answers : r ≡ counting (length (entries_of s c)) 0
  pub leaves : s' ≡ after s c
  pub lists : ends' ≡ overwrite ends (flat (entries_of s c))

-- Any call: "after a refusal everything lent is as before".
pub record CallIs (s : List ℕ) (c : Call) (ends : List ℕ) (r : Answer) (s' ends' : List ℕ) : Type 0 where
  pub answers : r ≡ cond (eqb (number_of s c) 0) (counting (length (entries_of s c)) 0) (refusing (number_of s c) 0)
  pub leaves : s' ≡ cond (eqb (number_of s c) 0) (after s c) s
  pub lists : ends' ≡ cond (eqb (number_of s c) 0) (overwrite ends (flat (entries_of s c))) ends

abbrev pub FeedTaken : (s piece ends : List ℕ) (r : Answer) (s' ends' : List ℕ) → Type 0
FeedTaken s piece ends r s' ends' = Taken s (feed piece (length ends)) ends r s' ends'

abbrev pub FinishTaken : (s ends : List ℕ) (r : Answer) (s' ends' : List ℕ) → Type 0
FinishTaken s ends r s' ends' = Taken s (finish (length ends)) ends r s' ends'

abbrev pub FeedIs : (s piece ends : List ℕ) (r : Answer) (s' ends' : List ℕ) → Type 0
FeedIs s piece ends r s' ends' = CallIs s (feed piece (length ends)) ends r s' ends'

abbrev pub FinishIs : (s ends : List ℕ) (r : Answer) (s' ends' : List ℕ) → Type 0
FinishIs s ends r s' ends' = CallIs s (finish (length ends)) ends r s' ends'

-- ---- a list of calls

-- "Each feed or finish is handed, whole, what the one before it returned or left".
abbrev pub run_from : (s : List ℕ) → List Call → List Plain.Answer
run_from s [] = []
run_from s (c ∷ cs) = elim (number_of s c) [
  | zero ↦ Plain.reported (entries_of s c) ∷ run_from (after s c) cs
  | suc n ↦ Plain.refused (suc n) ∷ run_from s cs
]

-- A slice of bytes.
abbrev pub Bytes : List ℕ → Type 0
Bytes xs = T (all is_byte xs)

abbrev pub PiecesAreBytes : List Call → Type 0
PiecesAreBytes [] = Unit {0}
PiecesAreBytes (c ∷ cs) = Bytes (piece_of c) × PiecesAreBytes cs
