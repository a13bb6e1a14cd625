pub mod Agreement
pub mod Sound
pub mod Uses
pub mod Run
pub mod Tile
pub mod SoundState
pub mod Drawings
