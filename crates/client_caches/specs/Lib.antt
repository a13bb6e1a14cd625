pub mod Answers
pub mod Caches
pub mod Stored
pub mod Named
pub mod Runs
pub mod Blocks
