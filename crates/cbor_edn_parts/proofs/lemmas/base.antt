-- Bytes by their kinds, and reads at a place: loops of automata over bytes, tokens, indicators, lines and columns.
pub mod ByteKinds
pub mod Each
pub mod Indicators
pub mod KindTable
pub mod Locations
pub mod ScanEnds
pub mod ScanLoops
pub mod TokenTests
pub mod Tokens
pub mod Utf8
pub mod WalkValues
