-- The laws of this crate; what is promised stands in Demand, Because, FailingLaws, Origins, Growing and Answers.
pub mod OpeningLaws
mod MarkLaws
mod RelianceLaws
mod GroupLaws
mod LastLaws
mod IndexLaws
pub mod TakenLaws
mod MemberLaws
mod ExplainLaws
mod CarryLaws
pub mod LogLaws
pub mod OpenedLaws
pub mod PickSteps
pub mod FailingLaws
mod ReasonSteps
pub mod Demand
pub mod Growing
pub mod Because
pub mod Origins
mod StoredLaws
pub mod Answers
