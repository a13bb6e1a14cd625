pub mod Presets
pub mod Sets
pub mod SetText
pub mod LastSets
pub mod ConfirmText
pub mod SampleClient
pub mod Demand
mod Lengths
