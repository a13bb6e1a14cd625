pub mod Lines
pub mod Long
pub mod Reading
pub mod Shown
pub mod Stages
pub mod Steps
pub mod Answers
