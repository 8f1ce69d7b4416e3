-- Parts of items, paths and loans.
pub mod AddedBytes
pub mod CountedItems
pub mod ReplacedItems
pub mod Pieces
pub mod Ties
