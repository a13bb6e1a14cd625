pub mod Reading
pub mod Steps
pub mod Keywords
pub mod Lines
pub mod Answers
