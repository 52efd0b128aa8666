-- The goals of `read_kind` that want a law of this crate.
use Rattle.std.proofs.Common.{◌≡◌, Err, Some, None, arith}
use Rattle.answers.specs.declared.Refusal.TheVariants.{ByteFault}
use Rattle.std.proofs.lemmas.Grind.{common_steps}
use Rattle.rule_class.specs.Items.{ReadsEscape}
use Rattle.rule_element.proofs.KindLaws.{kind-class, kind-gap, kind_no_escape, kind_escape, kind-plain}
use Rattle.rule_element.proofs.read_kind.Goals as goal

pub returns-in_err-escaped-in-92 : goal.returns-in_err-escaped-in-92
returns-in_err-escaped-in-92 c =
    let r : ReadsEscape c.args.rule.now c.args.at None = grind (arith, common_steps) in
    let f : c.from_residual.result ≡ Err ByteFault = grind (arith, common_steps) in
    rw f (kind_no_escape _ _ _ c.requires c.in-92.is r)

pub returns-in-91 : goal.returns-in-91
returns-in-91 c = kind-class _ _ _ c.requires c.in-91.is _ c.read_class.ensures

pub returns-in-123 : goal.returns-in-123
returns-in-123 c = kind-gap _ _ _ c.requires c.in-123.is _ c.read_gap.ensures

pub returns-in_ok-escaped-in-92 : goal.returns-in_ok-escaped-in-92
returns-in_ok-escaped-in-92 c =
    let r : ReadsEscape c.args.rule.now c.args.at (Some (c.in_ok-escaped-in-92.escaped, c.in_ok-escaped-in-92.next)) = grind (arith, common_steps) in
    kind_escape _ _ _ c.requires c.in-92.is _ _ r

pub returns-in_default : goal.returns-in_default
returns-in_default c =
    kind-plain _ _ _ c.requires (λ e. grind arith) (λ e. grind arith) (λ e. grind arith) (λ e. grind arith) (λ e. grind arith) (λ e. grind arith) (λ e. grind arith) (λ e. grind arith) (λ e. grind arith)
