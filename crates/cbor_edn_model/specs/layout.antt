-- Spaces by a policy, comments, and items without indicators.
pub mod Commented
pub mod Layout
pub mod LayoutLaws
pub mod Bare
pub mod Plain
pub mod BareLaws
pub mod Fewer
