-- What the loop of `verify` keeps.
use Rattle.window_reader.proofs.VerifyLaws.{Verifying}
use Rattle.window_reader.proofs.verify.Given as goal

abbrev pub invariant-loop-e : goal.invariant-loop-e
invariant-loop-e g l = Verifying (g.R.Reader.automaton l.forward) l.text l.s l.stop (g.R.State.States.number l.d) l.e
