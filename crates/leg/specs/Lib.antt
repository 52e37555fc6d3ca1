-- What the contracts of this crate cite, and what legal means in plain words.
pub mod Terminator
pub mod Stages
pub mod Judge
pub mod Legal
