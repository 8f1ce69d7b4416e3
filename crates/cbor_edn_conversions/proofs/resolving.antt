-- What visits that replace items keep of what these mean.
pub mod ByPrefix
pub mod Determined
pub mod Existing
pub mod Flat
pub mod ItemsKept
pub mod ItemsOnce
pub mod Keeping
pub mod OnItems
pub mod Resolved
pub mod Turning
pub mod VisitsKept
