-- What the contracts of this crate cite.
pub mod State
pub mod Apply
pub mod Correct
pub mod Run
pub mod Procedures
pub mod Bounds
pub mod Origin
pub mod Wrong
