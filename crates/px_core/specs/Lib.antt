pub mod Colors
pub mod Depth
pub mod Picture
pub mod Pixels
pub mod Rectangle
pub mod Tiles
pub mod TileFlags
