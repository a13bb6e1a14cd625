pub mod Board
pub mod Journal
pub mod Steps
pub mod Agreement
pub mod Entering
pub mod Reaching
pub mod Pending
pub mod Typing
