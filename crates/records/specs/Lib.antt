pub mod Sheets
pub mod Format
pub mod Of
pub mod Reading
pub mod Claims
