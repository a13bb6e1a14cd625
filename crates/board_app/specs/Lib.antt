pub mod Kinds
pub mod Loaded
pub mod Boards
pub mod Before
