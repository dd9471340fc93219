pub mod Chosen
pub mod Counted
