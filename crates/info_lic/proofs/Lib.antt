pub mod Stored
pub mod Names
pub mod Texts
pub mod NameText
pub mod InfoText
pub mod SampleClient
