pub mod Info
pub mod Cutting
pub mod Heard
pub mod Turns
pub mod Watched
mod Examples
