pub mod Coming
pub mod Greeted
pub mod FromFirst
pub mod Attending
pub mod Arrivals
pub mod Handled
pub mod Legal
pub mod OneStep
pub mod Streams
pub mod Stretches
pub mod TakesOn
pub mod OneTake
pub mod Writing
pub mod SendOn
pub mod Asked
pub mod Words
pub mod LinkStreams
pub mod Outsiders
pub mod Viewed
pub mod Standing
pub mod Visited
mod Dropped
pub mod LetIn
pub mod Reports
mod EndRows
mod LinkRows
