pub mod Gates
pub mod Working
pub mod OpenGate
pub mod Taking
pub mod Refusals
