-- Spaces by a policy, and items without indicators.
pub mod LaidStrings
pub mod LaidViews
pub mod ViewsWithoutIndicators
