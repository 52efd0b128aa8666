-- What preparing a rule answers the C host: rows 1 to 8 and 16, or the counts. Assumes nothing.
use Rattle.std.specs.Prelude.{◌≡◌, List, ℕ, length}
use Rattle.model.specs.Occurrence.{shortest}
use Rattle.model.specs.RuleText.{fold_flag, positions}
use Rattle.model.specs.NumberedAnswers.{Parsed, refused, accepted, parse}
use Rattle.answers.specs.declared.Opened.{Opened}
use Rattle.answers.specs.Answers.{refusing_rule, accepting_rule}

-- "Every refusal has zero counts beside its number and place"
abbrev pub prepare_answer : (flag : ℕ) → Parsed → Opened
prepare_answer flag (refused n p) = refusing_rule n p
prepare_answer flag (accepted es) =
    let ps = positions (fold_flag flag) es in
    accepting_rule (length ps) (shortest ps)

abbrev pub PrepareIs : (flag : ℕ) (rule : List ℕ) → Opened → Type 0
PrepareIs flag rule r = r ≡ prepare_answer flag (parse (fold_flag flag) rule)
