pub mod Histories
pub mod Plain
pub mod Runs
pub mod Carried
