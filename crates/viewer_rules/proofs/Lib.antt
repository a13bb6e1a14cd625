pub mod HostStream
pub mod Pieces
pub mod ConfirmedBack
pub mod Presets
pub mod Answered
pub mod Farewell
pub mod Shown
