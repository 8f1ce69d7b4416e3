pub mod Folding
pub mod Innermost
