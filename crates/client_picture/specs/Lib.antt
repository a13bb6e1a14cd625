pub mod Pictures
pub mod Parts
pub mod Sources
pub mod Bits
pub mod Touched
pub mod Words
