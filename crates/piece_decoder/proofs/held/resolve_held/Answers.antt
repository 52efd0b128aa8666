-- The goals of `held.resolve_held` that want a law of this crate.
use Rattle.piece_decoder.proofs.HeldLaws.{resolved_moves, resolved_completed, resolved_literal, resolved_pending}
use Rattle.piece_decoder.proofs.held.resolve_held.Goals as goal

pub overflow_sub-result : goal.overflow_sub-result
overflow_sub-result c = search resolved_moves

pub returns-in-Decoded : goal.returns-in-Decoded
returns-in-Decoded c = search resolved_completed

pub returns-in-Literal : goal.returns-in-Literal
returns-in-Literal c = search resolved_literal

pub returns-in-Incomplete : goal.returns-in-Incomplete
returns-in-Incomplete c = search resolved_pending
