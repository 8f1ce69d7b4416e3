-- Items, and trees of them with their spaces.
pub mod Items
pub mod TreeLeaves
pub mod Rows
pub mod Trees
pub mod Constructed
pub mod ConstructedLaws
