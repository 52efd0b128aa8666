-- The goals of `read_element` that want a law of this crate.
use Rattle.rule_element.proofs.Elements.{element-good}
use Rattle.rule_element.proofs.read_element.Goals as goal

pub returns : goal.returns
returns c =
    element-good _ _ _ _ _ _ c.in_ok-kind.ensures c.requires.used_le_position_limit _ c.size.ensures c.if-used-size.false _ c.read_often-often.ensures _ c.mark_bytes.ensures.0
