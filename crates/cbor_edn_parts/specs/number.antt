-- The texts of numbers.
pub mod Number
