mod Chosen
mod Asked
mod Search
pub mod Outcomes
