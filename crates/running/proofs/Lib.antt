-- The laws of this crate.
mod Laws
