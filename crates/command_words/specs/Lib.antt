pub mod Reading
pub mod HostWords
pub mod LookWords
pub mod ViewWords
