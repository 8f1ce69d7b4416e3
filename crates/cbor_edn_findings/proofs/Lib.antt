mod Advances
mod Completions
mod FirstOffsets
mod FoundOffsets
pub mod ToldPlaces
mod ToldLines
