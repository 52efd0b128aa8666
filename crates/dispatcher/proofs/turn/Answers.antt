-- The goals of `turn` that want a law of this crate.
use Rattle.dispatcher.proofs.Answering.{turn-none, next_small, turn-within, turn-serves}
use Rattle.dispatcher.proofs.turn.Goals as goal

pub returns-in-None : goal.returns-in-None
returns-in-None c = search turn-none

pub flag-requires : goal.flag-requires
flag-requires c = search next_small

pub overflow_sub-result : goal.overflow_sub-result
overflow_sub-result c = search turn-within

pub returns-in-Some : goal.returns-in-Some
returns-in-Some c = search turn-serves
