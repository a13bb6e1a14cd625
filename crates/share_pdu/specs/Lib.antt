pub mod Share
pub mod Packet
pub mod Final
pub mod Bodies
pub mod ClientPdu
pub mod Areas
pub mod Grammar
pub mod Faults
