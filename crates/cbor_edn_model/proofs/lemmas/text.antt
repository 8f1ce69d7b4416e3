-- Texts: the plain reader is sound and complete, so a text has one tree; what an answer to a whole text says; printing.
pub mod TagDigits
pub mod Texts
pub mod Again
pub mod Begins
pub mod Examples
pub mod Follows
pub mod Found
pub mod ItemsAndSpaces
pub mod OpeningCounts
pub mod Outcomes
pub mod Spelled
pub mod StepCounts
pub mod TagNumbers
pub mod KeywordTexts
pub mod Tested
pub mod GrammarLaws
pub mod Whole
