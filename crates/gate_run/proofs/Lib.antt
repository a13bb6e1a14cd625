pub mod Dealing
pub mod Ending
pub mod Numbers
pub mod Opened
pub mod Refused
pub mod Reported
mod GateRows
