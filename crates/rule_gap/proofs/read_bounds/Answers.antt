-- The goals of `read_bounds` that want a law of this crate.
use Rattle.std.proofs.Common.{arith}
use Rattle.std.proofs.lemmas.Grind.{common_steps}
use Rattle.rule_gap.proofs.GapLaws.{no_least, no_comma, no_most, no_brace, reversed, zero_most, gap-good}
use Rattle.rule_gap.proofs.read_bounds.Goals as goal

pub returns-in_err-least : goal.returns-in_err-least
returns-in_err-least c = rw c.from_residual.ensures (no_least _ _ c.in_err-least.ensures)

pub returns-then-ne : goal.returns-then-ne
returns-then-ne c = no_comma _ _ _ c.in_ok-least.ensures (grind (arith, common_steps))

pub returns-in_err-most : goal.returns-in_err-most
returns-in_err-most c = rw c.from_residual-in_err-most.ensures (no_most _ _ _ c.in_ok-least.ensures (grind (arith, common_steps)) c.in_err-most.ensures)

pub returns-then-ne-2 : goal.returns-then-ne-2
returns-then-ne-2 c = no_brace _ _ _ c.in_ok-least.ensures (grind (arith, common_steps)) _ c.in_ok-most.ensures (grind (arith, common_steps))

pub returns-then-most-least : goal.returns-then-most-least
returns-then-most-least c = reversed _ _ _ c.in_ok-least.ensures (grind (arith, common_steps)) _ c.in_ok-most.ensures (grind (arith, common_steps)) c.if-most-least.true

pub returns-then-most-eq0 : goal.returns-then-most-eq0
returns-then-most-eq0 c =
    zero_most _ _ _ c.in_ok-least.ensures (grind (arith, common_steps)) _ c.in_ok-most.ensures (grind (arith, common_steps)) c.if-most-least.false c.if-most-eq0.true

pub returns : goal.returns
returns c =
    gap-good _ _ _ c.in_ok-least.ensures (grind (arith, common_steps)) _ c.in_ok-most.ensures (grind (arith, common_steps)) c.if-most-least.false c.if-most-eq0.false
