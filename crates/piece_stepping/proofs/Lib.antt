-- Laws on plain values, for any automaton; each function's own file only cites them.
pub mod Steps
pub mod Pieces
pub mod HeldLaws
