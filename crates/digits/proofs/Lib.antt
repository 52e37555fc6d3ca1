-- The laws that other crates cite too, and one turn of each loop here.
pub mod Powers
pub mod ValueLaws
pub mod DecimalLaws
mod Turns
