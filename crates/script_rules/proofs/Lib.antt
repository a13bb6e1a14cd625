mod Rows
pub mod ReadBack
pub mod FormsOfViewers
mod Meanings
