-- The laws of the crate; what is promised stands in Statements, Relied and Growing.
pub mod Cases
pub mod Local
pub mod Correct
mod Numbered
mod Select
mod Accept
mod Earlier
pub mod Closure
pub mod Relied
mod Listed
mod CountLaws
pub mod Statements
pub mod Growing
mod Vectors
