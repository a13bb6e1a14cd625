pub mod Apart
pub mod FieldsFit
pub mod Fills
pub mod RunsUsed
pub mod Stores
pub mod TypesFit
pub mod Unpacked
pub mod Zeros
