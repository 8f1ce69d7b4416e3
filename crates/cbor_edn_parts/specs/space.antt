-- Space texts, their comments, and the table by which policies change them.
pub mod Comments
pub mod LayoutColumns
pub mod Notes
pub mod Space
pub mod Spacing
pub mod SpacingLaws
