pub mod Within
pub mod Parameters
pub mod Initial
pub mod InitialText
pub mod Broken
pub mod Response
pub mod SampleClient
