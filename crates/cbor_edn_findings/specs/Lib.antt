pub mod FaultOffsets
pub mod Findings
pub mod Shown
pub mod WithoutEncoding
pub mod internal
