pub mod Lists
pub mod Turning
pub mod Handling
pub mod Ascending
pub mod Noticing
pub mod InTurns
pub mod ReadOn
pub mod Rows
mod EventRows
