pub mod Common
pub mod Levels
