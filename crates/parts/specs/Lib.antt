-- What the contracts of this crate cite, and what its theorems speak of.
pub mod Record
pub mod Given
