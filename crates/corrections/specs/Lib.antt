-- What the contracts of this crate cite, and what its theorems say in plain words.
pub mod Lines
pub mod Reading
pub mod Text
