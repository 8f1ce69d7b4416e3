pub mod Steps
pub mod Spelling
pub mod Views
pub mod Answers
pub mod Found
pub mod PathLaws
pub mod Examples
pub mod internal
