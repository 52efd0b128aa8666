-- The goals of `fit_plane` that want a law of this crate.
use Rattle.std.proofs.Common.{sym, length, ◌∙◌}
use mathlib.Core.Logic.{inl, inr}
use Rattle.std.proofs.lemmas.List.{length_push}
use Rattle.code_table.proofs.FitLaws.{fit_begun, fit_turn, fit_over}
use Rattle.code_table.proofs.fit_plane.Goals as goal

pub loop-code-init : goal.loop-code-init
loop-code-init c =
    let first = c.zip-code-items.ensures.first in
    let second = c.zip-code-items.ensures.second in
    let gives = c.into_iter-code-iterator.ensures.into_iter_gives in
    fit_begun c.args.codes.now c.args.sets.now c.args.plane.now c.requires c.into_iter-code-iterator.result (cc) (cc) (cc)

pub union_of-union-requires : goal.union_of-union-requires
union_of-union-requires c = record { plane_len = c.loop-code.invariant.fitting.long; set_len = c.in-Some.ensures.steps.1.1.1 ∙ c.loop-code.invariant.size }

pub loop-code-preserved : goal.loop-code-preserved
loop-code-preserved c =
    let codes = c.args.codes.now in
    let sets = c.args.sets.now in
    let plane = c.args.plane.now in
    let steps = c.in-Some.ensures.steps in
    let turn = fit_turn codes sets plane c.requires c.loop-code.plane (length c.loop-code.yielded) c.loop-code.code-iterator c.loop-code.invariant
    c.next.new.self c.in-Some.code.now steps.0 c.in-Some.set.now steps.1.0 steps.1.1.0 steps.1.1.1 c.union_of-union.result c.union_of-union.ensures
    (λ i. (c.type_inv.codes i).fits) in
    let more = sym (length_push c.loop-code.yielded (c.in-Some.code, c.in-Some.set)) in
    turn c.from.result c.from.ensures _ more

pub returns : goal.returns
returns c =
    elim c.in-None.ensures.steps [
      | inl w ↦ fit_over c.args.codes.now c.args.sets.now c.args.plane.now c.requires c.loop-code.plane _ c.loop-code.code-iterator c.loop-code.invariant (inl w.1.0)
      | inr w ↦ fit_over c.args.codes.now c.args.sets.now c.args.plane.now c.requires c.loop-code.plane _ c.loop-code.code-iterator c.loop-code.invariant (inr w.1.1.0)
    ]
