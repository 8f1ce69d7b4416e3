-- Keywords, labels, and what spells an item.
pub mod ListHeads
pub mod Openers
pub mod TextLaws
pub mod Openings
pub mod Spelling
pub mod Keywords
pub mod Parsing
