pub mod Pieces
pub mod Moments
pub mod Steps
pub mod Calls
pub mod Ends
