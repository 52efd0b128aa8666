-- The goals of `put_words` that want a law of this crate.
use native.Mathlib.Omega.{arith}
use lib.ListN.{length-set}
use Rattle.rule_part.proofs.RuleFields.{words_put}
use Rattle.rule_part.proofs.put_words.Goals as goal

pub bounds-part-k1 : goal.bounds-part-k1
bounds-part-k1 c = simp length-set (omega arith)

pub bounds-part-k2 : goal.bounds-part-k2
bounds-part-k2 c = simp length-set (omega arith)

pub bounds-part-k3 : goal.bounds-part-k3
bounds-part-k3 c = simp length-set (omega arith)

pub returns : goal.returns
returns c = search words_put
