-- What the contracts of this crate cite.
pub mod Part
pub mod Order
pub mod Search
pub mod Joined
