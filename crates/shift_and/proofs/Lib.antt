-- Laws of numbers and rows of bits, and the bridge from words to the model.
pub mod Digits
pub mod DisjointBits
pub mod Closure
pub mod Guarded
pub mod Unchanged
pub mod ClosedStates
pub mod Counting
pub mod MaskLaws
pub mod Bridge
pub mod Runs
