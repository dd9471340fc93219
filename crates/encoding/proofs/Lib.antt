pub mod Reader
mod Heads
mod Begins
pub mod Placing
pub mod Lengths
