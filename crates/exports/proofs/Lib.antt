mod Exported
pub mod Served
mod Plain
