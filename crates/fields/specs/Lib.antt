-- What the contracts of this crate cite, and what its theorems say in plain words.
pub mod Pieces
pub mod Numbers
pub mod Optional
pub mod Text
pub mod Quantities
pub mod Turn
pub mod Head
pub mod Leg
pub mod Continuation
pub mod Values
