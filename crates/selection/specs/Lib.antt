-- What the contracts of this crate cite, and what its theorems say.
pub mod Reliance
pub mod Pick
pub mod Failing
pub mod Reasons
pub mod Demand
pub mod Growing
