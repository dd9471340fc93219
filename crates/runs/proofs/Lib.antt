mod Replies
mod Turns
pub mod Plain
