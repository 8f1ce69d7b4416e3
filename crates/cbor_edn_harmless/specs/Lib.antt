pub mod Harmless
pub mod HarmlessLaws
pub mod internal
