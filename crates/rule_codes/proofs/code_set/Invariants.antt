-- What the loop of `code_set` keeps.
use Rattle.rule_codes.proofs.CodeSets.{Adding}
use Rattle.rule_codes.proofs.code_set.Given as goal

abbrev pub invariant-loop-code : goal.invariant-loop-code
invariant-loop-code l = Adding l.codes l.set.words l.code-index
