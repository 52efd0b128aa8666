-- What the contracts cite.
pub mod BlockTests
