pub mod Buffers
pub mod Flags
pub mod Reports
pub mod Statuses
