-- The theorem that a record is accepted exactly when it is legal, and the laws behind it.
pub mod Legality
pub mod StageLaws
pub mod TerminatorLaws
mod Vectors
