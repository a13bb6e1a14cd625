pub mod NormalForm
pub mod SumLaws
pub mod LaneFacts
pub mod Counting
mod LaneRows
