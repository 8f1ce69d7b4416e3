-- Spaces, separators and comments, also by the columns of the table of policies.
pub mod Blanks
pub mod ColumnKinds
pub mod ColumnLengths
pub mod CommentScans
pub mod CommentTexts
pub mod NoteSpaces
pub mod NoteTexts
pub mod SeparatorTokens
pub mod SpaceTexts
pub mod SpacingExamples
pub mod Spacings
