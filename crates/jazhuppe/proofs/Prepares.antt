-- What preparing a rule answers. On plain values. Assumes nothing.
use mathlib.Core.Path.{◌≡◌, sym, ap, ◌∙◌}
use mathlib.Core.List.{List}
use Prim.Native.Nat.{ℕ}
use Rattle.model.specs.NumberedAnswers.{Parsed}
use Rattle.answers.specs.declared.Refused.{Refused}
use Rattle.answers.specs.declared.Opened.{Opened}
use Rattle.answers.specs.Answers.{number_of, refusing_rule, accepting_rule}
use Rattle.rule_parser.specs.declared.Prepared.{Prepared}
use Rattle.rule_parser.specs.Preparing.{PreparedRule, RuleRefused}
use Rattle.jazhuppe.specs.Preparing.{prepare_answer, PrepareIs}

pub rule_accepted : (flag : ℕ) (rule : List ℕ) (p : Prepared) → PreparedRule flag rule p → (r : Opened) → r ≡ accepting_rule p.positions p.shortest → PrepareIs flag rule r
rule_accepted flag rule p h r e = e ∙ ap (λ (y : Prepared). accepting_rule y.positions y.shortest) h.is ∙ sym (ap (λ (x : Parsed). prepare_answer flag x) h.parses)

pub rule_refused : (flag : ℕ) (rule : List ℕ) (x : Refused) → RuleRefused flag rule x → (r : Opened) → r ≡ refusing_rule (number_of x.refusal) x.place → PrepareIs flag rule r
rule_refused flag rule x h r e = e ∙ sym (ap (λ (x : Parsed). prepare_answer flag x) h.is)
