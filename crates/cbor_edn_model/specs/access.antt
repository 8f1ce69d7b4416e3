-- Parts of trees, and paths.
pub mod Accessed
pub mod Paths
