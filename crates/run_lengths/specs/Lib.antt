pub mod Codes
pub mod RunLength
pub mod Packer
pub mod WirePixels
