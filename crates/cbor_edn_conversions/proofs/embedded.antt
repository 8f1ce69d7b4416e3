-- Byte strings that are shown as embedded sequences.
pub mod LiteralBytes
pub mod DecodedItems
pub mod FirstBytes
pub mod ShownVisits
pub mod ShownNestings
pub mod ShownMeanings
pub mod ShownCalls
