pub mod Rows
pub mod OneByOne
pub mod Data
