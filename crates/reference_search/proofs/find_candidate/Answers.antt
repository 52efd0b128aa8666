-- The goals of `find_candidate` that want a law: on by blocks without any `&`, and then byte by byte, or by a block at this test.
use Rattle.std.proofs.Common.{rules}
use Rattle.byte_search.proofs.BlockLaws.{none_before}
use Rattle.reference_search.proofs.CandidateLaws.{amp_bytewise, amp_looked}
use Rattle.reference_search.proofs.find_candidate.Goals as goal

pub returns-then-end-at-lt64 : goal.returns-then-end-at-lt64
returns-then-end-at-lt64 c = amp_bytewise c.args.text.now c.loop-i.invariant (none_before c.skip_blocks-at.ensures (λ j h q. search rules)) (none_before c.find_in_turn.ensures (λ j h q. search rules))

pub returns-then-j-at-lt64 : goal.returns-then-j-at-lt64
returns-then-j-at-lt64 c = amp_looked c.args.text.now c.loop-i.invariant (none_before c.skip_blocks-at.ensures (λ j h q. search rules)) (search rules) c.first_candidate-j.ensures

pub loop-i-preserved : goal.loop-i-preserved
loop-i-preserved c = amp_looked c.args.text.now c.loop-i.invariant (none_before c.skip_blocks-at.ensures (λ j h q. search rules)) (search rules) c.first_candidate-j.ensures
