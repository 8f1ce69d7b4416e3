-- What a visit does, call by call.
pub mod Visits
pub mod Depth
pub mod Tagged
pub mod Seeking
