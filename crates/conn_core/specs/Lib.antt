pub mod Judges
pub mod Feeds
pub mod Stream
pub mod Kept
