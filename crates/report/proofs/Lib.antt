pub mod Numerals
pub mod Pieces
pub mod Places
