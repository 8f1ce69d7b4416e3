-- Texts that are parsed.
pub mod Parsing
