-- The goals of `literal_chunk` that want a law of this crate.
use Rattle.piece_decoder.proofs.ChunkLaws.{goes_on, stays}
use Rattle.piece_decoder.proofs.literal_chunk.Goals as goal

pub returns-then-in_place : goal.returns-then-in_place
returns-then-in_place c = search goes_on

pub returns : goal.returns
returns c = search stays
