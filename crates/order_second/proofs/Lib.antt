pub mod Whole
pub mod Brushes
