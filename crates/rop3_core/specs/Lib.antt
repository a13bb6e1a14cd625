pub mod Rop3
pub mod Palette
pub mod Masks
