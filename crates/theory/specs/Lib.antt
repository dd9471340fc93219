pub mod Bag
pub mod Laws
pub mod Digits
pub mod Lightest
pub mod Replay
pub mod Promise
