pub mod Stretch
pub mod Words
pub mod Result
pub mod Packed
