-- The goals of `decode_chunk` that want a law of this crate.
use Rattle.piece_decoder.proofs.ChunkLaws.{part-full, part-more, part-last}
use Rattle.piece_decoder.proofs.decode_chunk.Goals as goal

pub returns-then-f : goal.returns-then-f
returns-then-f c = search part-full

pub returns-then-k-piece : goal.returns-then-k-piece
returns-then-k-piece c = search part-more

pub returns : goal.returns
returns c = search part-last
