-- The table of columns as data, what its rows mean when they are run, a quick yes for most of what they allow, where a field goes wrong,
-- what the paper says in words, with the calendar that it speaks of, and sample records.
pub mod ByteSets
pub mod Patterns
pub mod Terminators
pub mod Rows
pub mod Stops
pub mod Fields
pub mod Layout
pub mod Kinds
pub mod Table
pub mod Found
pub mod Quick
pub mod Neighbours
pub mod Calendar
pub mod Words
pub mod Samples
