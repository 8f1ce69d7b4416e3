pub mod text
pub mod tree
pub mod access
pub mod visit
pub mod internal
