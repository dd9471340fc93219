pub mod Outcomes
pub mod Search
