pub mod Findings
pub mod Gaps
pub mod NumberFaults
pub mod State
pub mod Table
pub mod Told
pub mod Tokens
pub mod WordFaults
