pub mod Turns
pub mod Events
pub mod Notices
pub mod Places
pub mod Reading
