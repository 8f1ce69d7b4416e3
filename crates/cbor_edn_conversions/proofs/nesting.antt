-- How deep items nest that conversions leave.
pub mod DirectAnswers
pub mod DirectClaims
pub mod DirectVisits
pub mod GivenItems
pub mod Meant
pub mod MessagesLeft
pub mod TagDepths
