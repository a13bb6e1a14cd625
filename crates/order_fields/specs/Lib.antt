pub mod OrderTable
pub mod Secondary
pub mod OrderStream
pub mod OrderDelta
pub mod Kept
pub mod NamedDrawing
