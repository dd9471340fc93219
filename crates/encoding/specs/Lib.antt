pub mod Words
pub mod Requests
pub mod Reading
pub mod Answers
