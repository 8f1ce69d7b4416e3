pub mod resolving
pub mod conversions
pub mod nesting
pub mod embedded
pub mod examples
pub mod TablesInTurn
