pub mod ToldMeaning
pub mod Restored
pub mod Drawn
pub mod Obeyed
pub mod TilesObeyed
pub mod Updated
pub mod WidePixels
pub mod Streams
