-- Lemmas by topic. The other folders of `proofs/` are those of functions.
pub mod base
pub mod space
pub mod number
pub mod string
