-- The goals of `feed_held` that want a law.
use Rattle.piece_stepping.proofs.HeldLaws.{after_literal, fed_completed, fed_literal, fed_pending}
use Rattle.scan_piece.proofs.feed_held.Goals as goal

pub feed_rest-requires-in-Literal-clause-space : goal.feed_rest-requires-in-Literal-clause-space
feed_rest-requires-in-Literal-clause-space g c = search after_literal

pub returns-in-Completed : goal.returns-in-Completed
returns-in-Completed g c = search fed_completed

pub returns-in-Literal : goal.returns-in-Literal
returns-in-Literal g c = search fed_literal

pub returns-in-Pending : goal.returns-in-Pending
returns-in-Pending g c = search fed_pending
