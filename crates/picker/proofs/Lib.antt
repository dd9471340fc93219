pub mod Settings
pub mod Entries
pub mod Advances
pub mod Onward
pub mod Labels
pub mod Texts
