pub mod Boxed
pub mod Journal
pub mod Lending
pub mod Notes
pub mod Passes
pub mod Rule
pub mod Shares
pub mod Steps
