-- The goals of `step_literals` that want a law.
use mathlib.Core.Path.{refl}
use Rattle.piece_stepping.proofs.Steps.{stored_bytes, stepped-bytes}
use borrow.Author.Rules.{rules}
use Rattle.scan_pairs.proofs.step_literals.Goals as goal

pub overflow_add-count : goal.overflow_add-count
overflow_add-count g c = let x = c.scan_literals-r.ensures in
    let h = stored_bytes _ _ _ _ c.args.text.now c.requires.space refl x.few in
    search (h, rules)

pub returns : goal.returns
returns g c = search stepped-bytes
