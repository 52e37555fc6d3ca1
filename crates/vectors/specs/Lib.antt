-- What the contracts of this crate cite.
pub mod Sums
pub mod Verdicts
