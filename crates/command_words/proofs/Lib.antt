pub mod Reading
pub mod Found
pub mod HostFound
pub mod SpacedWords
pub mod Names
pub mod ViewFound
pub mod Rows
