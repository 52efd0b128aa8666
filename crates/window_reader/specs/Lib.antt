-- What the contracts cite.
pub mod States
pub mod WideStates
pub mod Reading
