pub mod Counts
pub mod Taken
