-- The theorems about the table of columns, the laws behind them, and one turn of each loop of the matcher.
pub mod BadByte
mod CompletedRecord
pub mod Content
pub mod CycleLaws
pub mod CycleMoved
pub mod FieldLaws
pub mod LetterLaws
pub mod PatternLaws
mod QuickLaws
pub mod RowLaws
pub mod ShortFields
mod SightLaws
pub mod StopLaws
pub mod TerminatorList
pub mod Tied
pub mod Tiled
pub mod Printable
pub mod WordLaws
mod Turns
mod CalendarVectors
mod Vectors
