pub mod Serving
pub mod Requests
pub mod Answering
pub mod Promise
pub mod Refusals
