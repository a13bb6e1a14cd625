pub mod Fields
pub mod Tables
pub mod Reading
pub mod Records
