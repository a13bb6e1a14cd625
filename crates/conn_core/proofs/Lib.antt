pub mod Fronts
pub mod Areas
pub mod Part
pub mod Loop
