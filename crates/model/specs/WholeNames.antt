-- Note 2, "Whole names": whether a rule covers a name. Assumes nothing.
use Rattle.std.specs.Prelude.{Bool, cond, List, ℕ, ltb, length}
use Rattle.model.specs.RefusalNumbers.{too_much}
use Rattle.model.specs.Occurrence.{Position, is_occurrence}
use Rattle.model.specs.RuleText.{fold_flag, positions}
use Rattle.model.specs.NumberedAnswers.{text_limit, Parsed, refused, accepted, parse}

-- "whether a rule covers a seat name from first byte to last": the whole name is one occurrence. "A name is taken as it comes, undecoded".
abbrev pub covers : List Position → (name : List ℕ) → Bool
covers ps name = is_occurrence ps name

-- What the call answers: a refusal, or whether the name is covered.
pub data CoverAnswer : Type 0 where
  turns_down : (number place : ℕ) → CoverAnswer
  says : Bool → CoverAnswer

-- "the call on a whole name, which is lent no codes and no list, [checks] the rule, then 10"
abbrev pub covered_by : (fold : Bool) → Parsed → (name : List ℕ) → CoverAnswer
covered_by fold (refused n p) name = turns_down n p
covered_by fold (accepted es) name = cond (ltb text_limit (length name)) (turns_down too_much 0) (says (covers (positions fold es) name))

abbrev pub covered : (flag : ℕ) (rule name : List ℕ) → CoverAnswer
covered flag rule name = covered_by (fold_flag flag) (parse (fold_flag flag) rule) name
