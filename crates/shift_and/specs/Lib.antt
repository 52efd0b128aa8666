-- The forward step on words, and the masks of a list of positions.
pub mod Bit
pub mod ForwardStep
pub mod Automaton
pub mod Masks
