-- Trees of Rust values.
pub mod Forms
pub mod Views
pub mod Nestings
