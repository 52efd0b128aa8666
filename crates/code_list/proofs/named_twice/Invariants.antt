-- What the loop of `named_twice` keeps, and what falls.
use Rattle.std.proofs.Common.{◌≡◌, length}
use Rattle.model.specs.Codes.{named_twice}
use Rattle.code_list.proofs.named_twice.Given as goal

abbrev pub invariant-loop-code : goal.invariant-loop-code
invariant-loop-code l = named_twice l.rest ≡ named_twice l.codes

abbrev pub decreases-loop-code : goal.decreases-loop-code
decreases-loop-code l = length l.rest
