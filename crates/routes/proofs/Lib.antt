-- The laws of the crate.
pub mod InTurnLaws
pub mod SourceLaws
pub mod KnownLaws
pub mod TableLaws
pub mod PairLaws
pub mod FileLaws
pub mod Steps
pub mod PlaceLaws
pub mod Routes
pub mod Lines
pub mod Legality
pub mod FirstLaws
mod GlanceLaws
mod Turns
mod Vectors
