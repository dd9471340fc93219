pub mod Pile
