pub mod Runs
pub mod Drawn
pub mod Scenes
pub mod Frames
pub mod Asked
pub mod Beginning
pub mod Loops
pub mod Sums
mod Rows
mod Meanings
