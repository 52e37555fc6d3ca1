-- The laws of the crate; what is promised stands in Theorems.
mod AnswerLaws
pub mod Theorems
mod Vectors
