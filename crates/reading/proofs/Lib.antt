mod Examples
pub mod Turns
