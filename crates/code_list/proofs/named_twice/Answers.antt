-- The goals of `named_twice` that want a law of this crate.
use Rattle.code_list.proofs.CodeLists.{twice_here, twice_later}
use Rattle.code_list.proofs.named_twice.Goals as goal

pub returns-then-contains : goal.returns-then-contains
returns-then-contains c = twice_here c.args.codes.now c.loop-code.rest.now _ _ c.in-Some.ensures.cases.0 c.loop-code.invariant _ c.contains.ensures.value c.if-contains.true

pub loop-code-preserved : goal.loop-code-preserved
loop-code-preserved c = twice_later c.args.codes.now c.loop-code.rest.now _ _ c.in-Some.ensures.cases.0 c.loop-code.invariant _ c.contains.ensures.value c.if-contains.false
