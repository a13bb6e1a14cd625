pub mod Changed
pub mod Names
pub mod Modes
pub mod Arguments
pub mod Invited
pub mod Rowed
pub mod Asked
mod LineRows
