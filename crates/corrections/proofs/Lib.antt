-- The laws of the crate.
pub mod ReachLaws
pub mod LineLaws
mod IndexLaws
pub mod Turns
pub mod FormLaws
pub mod StopLaws
pub mod FrontLaws
pub mod Spelling
pub mod TextLaws
pub mod Legality
pub mod ReadBack
pub mod Within
mod LegalLines
mod Refusing
pub mod Wrong
mod Vectors
