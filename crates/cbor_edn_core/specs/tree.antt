-- The trees of Rust values, and trees that are made.
pub mod Borrowed
pub mod View
pub mod Constructed
pub mod Embedding
pub mod Nestings
