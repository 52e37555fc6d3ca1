-- What the contracts of this crate cite, and what its theorems say in plain words.
pub mod InTurn
pub mod Sources
pub mod LegTable
pub mod Pairs
pub mod Stages
pub mod Walk
pub mod Known
pub mod Files
pub mod Places
pub mod Glance
pub mod First
pub mod Legal
