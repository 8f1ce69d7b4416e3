pub mod Leaves
pub mod Written
pub mod LeafLaws
pub mod base
pub mod internal
pub mod number
pub mod space
pub mod string
