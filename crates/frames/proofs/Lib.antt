pub mod Settings
pub mod Equality
