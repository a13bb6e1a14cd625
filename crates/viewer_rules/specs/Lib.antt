pub mod ClientPackets
pub mod HostAnswers
pub mod HostStream
pub mod ViewerHandshake
pub mod Rounds
pub mod Shown
