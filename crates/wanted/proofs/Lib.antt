-- The laws of the crate.
pub mod NumberLaws
mod Turns
mod Vectors
