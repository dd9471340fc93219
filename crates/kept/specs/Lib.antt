pub mod Sizes
pub mod Tables
