-- The goals of `decode_marked` that want a law of this crate.
use Rattle.piece_decoder.proofs.TokenLaws.{less}
use Rattle.piece_decoder.proofs.MarkedTokens.{marking, marking_room, note_fits, mark-turn, mark_stopped, mark-full, mark-over}
use borrow.Author.Rules.{rules}
use Rattle.piece_decoder.proofs.decode_marked.Goals as goal

pub loop-i-init : goal.loop-i-init
loop-i-init c = search marking

pub returns-then-m-ge-MARK_LIMIT : goal.returns-then-m-ge-MARK_LIMIT
returns-then-m-ge-MARK_LIMIT c = search mark-full

pub decode_token-t-requires : goal.decode_token-t-requires
decode_token-t-requires c = search (rules, marking_room)

pub returns-then-t : goal.returns-then-t
returns-then-t c = search mark_stopped

pub note-m-requires : goal.note-m-requires
note-m-requires c = search note_fits

pub loop-i-smaller : goal.loop-i-smaller
loop-i-smaller c = search (less, rules)

pub loop-i-preserved : goal.loop-i-preserved
loop-i-preserved c = search mark-turn

pub returns : goal.returns
returns c = search mark-over
