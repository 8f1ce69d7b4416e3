-- Rows, compared and made.
pub mod EqualRows
pub mod Commas
