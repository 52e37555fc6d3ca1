-- What the theorems of this crate speak of.
pub mod Format
pub mod Apply
pub mod Sets
pub mod Demand
pub mod Growing
pub mod Bytes
