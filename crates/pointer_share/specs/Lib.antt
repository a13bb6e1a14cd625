pub mod Messages
pub mod Parts
pub mod Desk
pub mod Views
pub mod Outlines
pub mod Shows
