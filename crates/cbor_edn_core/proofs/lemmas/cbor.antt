-- CBOR: the rules of the plain reader of bytes, as the decoder meets them, and what calls that decode answer.
pub mod CborRows
pub mod Decodes
