-- What leaves of all kinds stand on: kinds of bytes, texts of leaves, indicators, refusals and their places.
pub mod Buffer
pub mod Bytes
pub mod Errors
pub mod Indicator
pub mod LeafTexts
pub mod Location
pub mod Options
pub mod Refusals
