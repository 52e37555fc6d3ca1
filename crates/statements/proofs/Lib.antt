-- What a customer has to believe, together.
pub mod Starred
pub mod Printed
pub mod Unique
pub mod OrderLaws
pub mod Demands
