pub mod Sums
pub mod Lanes
pub mod Rows
