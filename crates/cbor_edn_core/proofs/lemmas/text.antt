-- Texts: the rules of the plain reader, as the parser meets them; what is borrowed, and what is printed.
pub mod Borrows
pub mod EnclosedTurns
pub mod Looks
pub mod Printable
pub mod StringTurns
pub mod Turns
