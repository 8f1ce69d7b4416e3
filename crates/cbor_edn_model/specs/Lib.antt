pub mod text
pub mod cbor
pub mod layout
pub mod tree
pub mod access
pub mod visit
pub mod internal
