pub mod Confirmed
pub mod Presets
pub mod CapabilitySets
pub mod ConfirmActive
pub mod Grammar
pub mod Faults
pub mod DemandActive
