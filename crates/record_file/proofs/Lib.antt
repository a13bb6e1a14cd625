pub mod Pieces
pub mod Readers
pub mod Played
pub mod Legal
pub mod LegalFronts
pub mod HeadRight
pub mod Stands
pub mod Kept
pub mod Fronts
pub mod Counting
pub mod Feeding
pub mod Replayed
pub mod Resuming
mod ReplayRows
