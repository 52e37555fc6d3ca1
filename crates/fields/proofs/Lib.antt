-- The laws of the crate.
pub mod NumberLaws
mod Turns
mod ReadLaws
mod PutLaws
pub mod PieceLaws
pub mod Field
pub mod TextLaws
pub mod QuantityLaws
pub mod Placed
pub mod RoundTrip
pub mod ValueLaws
