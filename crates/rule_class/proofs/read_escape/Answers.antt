-- The goals of `read_escape` that want a law of this crate.
use mathlib.Core.Path.{sym, ◌∙◌}
use Rattle.rule_class.proofs.Ends.{escaped, not_escaped}
use Rattle.rule_class.proofs.read_escape.Goals as goal

pub returns-then-not-escapable : goal.returns-then-not-escapable
returns-then-not-escapable c = not_escaped _ _ _ c.in_ok-c.ensures.lookup.3 (sym c.escapable.ensures ∙ c.if-not-escapable.true)

pub returns : goal.returns
returns c = escaped _ _ _ c.in_ok-c.ensures.lookup.3 (sym c.escapable.ensures ∙ c.if-not-escapable.false)
