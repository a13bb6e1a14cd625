pub mod UseSteps
pub mod UseFacts
pub mod Recency
pub mod Steps
pub mod Indices
