-- The laws of this crate; Bridge ties what is run to the theory of selection, OriginLaws and LastPut say where each record comes from.
mod ShiftLaws
mod FirstLaws
pub mod StateLaws
pub mod ApplyLaws
mod JudgeLaws
mod CorrectLaws
mod RisingLaws
mod StandLaws
mod RouteLaws
pub mod RunLaws
pub mod BoundLaws
pub mod Procedures
pub mod Kept
pub mod PlacedLaws
pub mod TouchedLaws
pub mod Bridge
pub mod WrongLaws
pub mod OriginLaws
pub mod LastPut
