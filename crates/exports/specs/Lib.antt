pub mod Piles
pub mod Opening
pub mod Plain
