mod Words
pub mod Lines
pub mod Cutting
pub mod Judging
pub mod Steps
pub mod Texts
pub mod Showing
pub mod PointerRows
