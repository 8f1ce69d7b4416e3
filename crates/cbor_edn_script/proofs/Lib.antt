pub mod PathsKept
pub mod EditTurns
pub mod ChangedItems
pub mod SameItems
pub mod EditsOnItems
pub mod SpelledIsRead
