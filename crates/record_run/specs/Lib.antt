pub mod Recording
pub mod Reading
pub mod Run
pub mod Recorders
pub mod Shown
pub mod Replays
