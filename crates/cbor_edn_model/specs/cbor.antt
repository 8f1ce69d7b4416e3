-- Values of CBOR, what items mean, and the items of values.
pub mod CborLaws
pub mod Decoded
pub mod Meaning
pub mod Value
