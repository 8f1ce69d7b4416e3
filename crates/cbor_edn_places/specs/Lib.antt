pub mod Between
pub mod Places
pub mod Refusals
pub mod internal
