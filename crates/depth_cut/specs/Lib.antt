pub mod Style
