-- The texts of literals, and what they stand for.
pub mod Contents
pub mod Literal
