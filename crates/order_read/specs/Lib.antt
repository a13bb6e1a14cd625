pub mod Told
pub mod Parts
pub mod Reading
pub mod Primary
pub mod Others
