-- The goals of `union_of` that want a law of this crate.
use Rattle.std.proofs.Common.{◌+◌, ◌<◌, arith, sym, subst}
use Rattle.code_table.proofs.FitLaws.{Uniting, uniting, unite_turn, unite_pass, unite_over}
use Rattle.code_table.proofs.union_of.Goals as goal
use Rattle.code_table.proofs.union_of.Goals.{then-in_set, else-in_set}

pub loop-x-init : goal.loop-x-init
loop-x-init c = search uniting

pub loop-x-preserved : goal.loop-x-preserved
loop-x-preserved c =
    let plane = c.args.plane.now in
    let set = c.args.set.now in
    let l : c.loop-x.x < 256 = omega (arith, c.requires.plane_len, c.loop-x-test.true) in
    elim c.if-in_set.branch [
      | then-in_set w ↦
          subst (λ u. Uniting plane set u (c.loop-x.x + 1)) (sym w.union-is)
          (unite_turn plane set _ _ c.loop-x.invariant l _ c.in_set.ensures w.if-in_set.true)
      | else-in_set w ↦
          subst (λ u. Uniting plane set u (c.loop-x.x + 1)) (sym w.union-is)
          (unite_pass plane set _ _ c.loop-x.invariant l _ c.in_set.ensures w.if-in_set.false)
    ]

pub returns : goal.returns
returns c = unite_over _ _ _ _ c.loop-x.invariant (omega (arith, c.requires.plane_len))
