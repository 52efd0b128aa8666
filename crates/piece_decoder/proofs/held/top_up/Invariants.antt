-- What the loop of `held.top_up` keeps, and what falls.
use Rattle.piece_decoder.proofs.HeldLaws.{Topping}
use Rattle.model.specs.References.{form_limit}
use Prim.Native.Nat.{◌-◌}
use Rattle.piece_decoder.proofs.held.top_up.Given as goal

abbrev pub invariant-loop-n : goal.invariant-loop-n
invariant-loop-n l = Topping (record { bytes = l.initial.t; len = l.initial.n }) l.piece l.t l.n l.i

abbrev pub decreases-loop-n : goal.decreases-loop-n
decreases-loop-n l = form_limit - l.n
