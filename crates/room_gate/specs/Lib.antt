pub mod Keepers
pub mod Ends
pub mod Rooms
