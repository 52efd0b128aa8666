-- The goals of `both_cases` that want a law of this crate.
use Rattle.std.proofs.Common.{◌+◌, ◌<◌, arith, sym, subst}
use Rattle.byte_set.specs.declared.ByteSet.{ByteSet}
use Rattle.byte_set.proofs.SetSteps.{Widening, widening, widen-turn, widen_pass, widen-over}
use Rattle.byte_set.proofs.ByteSet.both_cases.Goals as goal
use Rattle.byte_set.proofs.ByteSet.both_cases.Goals.{then-contains, else-contains}

pub loop-c-init : goal.loop-c-init
loop-c-init c = search widening

pub loop-c-preserved : goal.loop-c-preserved
loop-c-preserved c =
    let w₀ = c.args.self.words in
    let below : c.loop-c.c < 123 = omega (arith, c.loop-c-test.true) in
    elim c.if-contains.branch [
      | then-contains w ↦
          subst (λ (s : ByteSet). Widening w₀ s.words (c.loop-c.c + 1)) (sym w.wide-is)
          (widen-turn w₀ c.loop-c.invariant below _ c.other_case.ensures _ c.contains.ensures w.if-contains.true _ w.insert.ensures)
      | else-contains w ↦
          subst (λ (s : ByteSet). Widening w₀ s.words (c.loop-c.c + 1)) (sym w.wide-is)
          (widen_pass w₀ c.loop-c.invariant below _ c.other_case.ensures _ c.contains.ensures w.if-contains.false)
    ]

pub returns : goal.returns
returns c = search widen-over
