-- Visits, from the calls to the whole.
pub mod VisitedRows
pub mod VisitsOfParts
pub mod RowDepths
pub mod Untagged
