pub mod Results
pub mod Keys
mod Feeding
pub mod Feeds
pub mod LineCases
pub mod Notation
pub mod Decimals
pub mod Hexadecimals
pub mod RecordCases
pub mod Roundtrip
pub mod TextCases
pub mod Claims
