-- The theorems about calls as they were made.
pub mod MadeCalls
pub mod Agreement
pub mod LikeLists
