pub mod Edits
pub mod ItemPaths
pub mod EditedItems
pub mod ReadingBack
