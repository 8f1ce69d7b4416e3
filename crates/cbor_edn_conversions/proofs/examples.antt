-- Worked examples.
pub mod AddressRows
pub mod AnnotationRows
pub mod ConvertedBack
pub mod PartRows
pub mod ResolvedBack
pub mod TimeRows
