-- The goals of `sets_wrong` that want a law of this crate.
use Rattle.std.proofs.Common.{sym, subst}
use Rattle.std.proofs.lemmas.List.{length_push}
use Rattle.code_list.proofs.CodeLists.{Judging, set_faulty, set_right, sets_over}
use Rattle.code_list.proofs.sets_wrong.Goals as goal

pub returns-then-set_wrong : goal.returns-then-set_wrong
returns-then-set_wrong c =
    let s = c.in-Some.ensures.steps in
    set_faulty c.args.codes.now c.args.sets.now _ c.loop-set.set-iterator c.next.new.self c.in-Some.set.now c.loop-set.invariant s.0 s.1.0 s.1.1 _ c.set_wrong.ensures c.if-set_wrong.true

pub loop-set-preserved : goal.loop-set-preserved
loop-set-preserved c =
    let s = c.in-Some.ensures.steps in
    subst (λ k. Judging c.args.codes.now c.args.sets.now k c.next.new.self) (sym (length_push c.loop-set.yielded c.in-Some.set))
    (set_right c.args.codes.now c.args.sets.now _ c.loop-set.set-iterator c.next.new.self c.in-Some.set.now c.loop-set.invariant s.0 s.1.0 s.1.1 _ c.set_wrong.ensures c.if-set_wrong.false)

pub returns : goal.returns
returns c = sets_over c.args.codes.now c.args.sets.now _ c.loop-set.set-iterator c.loop-set.invariant c.in-None.ensures.steps.1.0
