-- The laws that other crates cite too, and what the specs say in std's words.
pub mod Cases
pub mod PartLaws
pub mod OrderLaws
pub mod SearchLaws
pub mod WriteLaws
pub mod EveryLaws
pub mod StdLaws
mod WordLaws
mod PastLaws
