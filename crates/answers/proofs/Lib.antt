-- The laws of this crate; what is promised of the answers' lengths stands in Lengths.
mod WroteLaws
mod LineLaws
mod AnswerLaws
mod WhyLaws
pub mod Lengths
mod Vectors
