pub mod Digest
pub mod Lines
