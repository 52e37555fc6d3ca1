-- What the contracts of this crate cite.
pub mod Written
pub mod Answers
pub mod Why
