pub mod Parity
pub mod Forests
pub mod Bases
pub mod Parts
pub mod Labels
pub mod Roots
pub mod Theorem
pub mod Examples
