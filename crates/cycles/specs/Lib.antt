pub mod Graphs
pub mod Labels
pub mod Claims
