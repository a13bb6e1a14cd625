pub mod Lists
pub mod Moves
pub mod Passing
mod Rows
pub mod Shares
pub mod Turning
mod PassRows
