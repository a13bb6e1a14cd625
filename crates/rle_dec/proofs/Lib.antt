pub mod Drawn
pub mod Places
pub mod CopyLaws
pub mod ShortOrders
pub mod Progress
pub mod Steps
