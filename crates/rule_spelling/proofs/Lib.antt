-- Laws on plain values, bottom up.
pub mod MissedPositions
pub mod OuterLaws
pub mod OneElement
pub mod Spellings
pub mod Rereading
pub mod Retired
pub mod LikeTest
pub mod LikeRules
pub mod ImportCovers
