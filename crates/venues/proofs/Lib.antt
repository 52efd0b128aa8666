-- The theorem, bottom up.
pub mod NextFeed
pub mod Served
pub mod Pieces
pub mod Apart
pub mod InTurns
