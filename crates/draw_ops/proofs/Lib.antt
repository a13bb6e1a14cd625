pub mod Broken
pub mod Painted
pub mod Rows
pub mod KeptColors
pub mod ShownRaster
pub mod Changed
pub mod Shapes
