-- The goals of `note` that want a law of this crate.
use native.Mathlib.Omega.{arith}
use lib.ListN.{length-set}
use Rattle.piece_decoder.proofs.MarkedTokens.{noted_one, noted_none}
use Rattle.piece_decoder.proofs.note.Goals as goal

pub bounds-marks-second : goal.bounds-marks-second
bounds-marks-second c = simp length-set (omega arith)

pub bounds-marks-third : goal.bounds-marks-third
bounds-marks-third c = simp length-set (omega arith)

pub returns-then-reference : goal.returns-then-reference
returns-then-reference c = search noted_one

pub returns : goal.returns
returns c = search noted_none
