-- What the theorems of this crate speak of.
pub mod Order
pub mod Starred
pub mod Determined
