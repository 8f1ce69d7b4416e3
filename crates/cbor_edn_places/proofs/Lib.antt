mod Around
pub mod Cuts
mod FirstPlaces
mod KnownPaths
mod Lacking
pub mod MeantItems
mod Offsets
pub mod PathsOnItems
mod Refusals
