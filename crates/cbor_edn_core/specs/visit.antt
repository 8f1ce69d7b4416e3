-- Calls of a visit.
pub mod Callbacks
pub mod Sought
