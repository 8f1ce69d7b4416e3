-- Lemmas by topic. The other folders of `proofs/` are those of functions.
pub mod Rules
pub mod text
pub mod cbor
pub mod layout
pub mod tree
pub mod access
pub mod visit
