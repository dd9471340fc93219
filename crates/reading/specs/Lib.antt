pub mod Of
pub mod Texts
