pub mod Looks
pub mod Watches
pub mod Views
pub mod HostTurns
