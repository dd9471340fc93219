pub mod Cases
mod Wrong
