-- What the theorems say.
pub mod Agreement
pub mod LikeLists
