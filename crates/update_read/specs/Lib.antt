pub mod Parts
pub mod Told
pub mod PacketParts
pub mod Forms
pub mod Cutters
pub mod Sieves
pub mod Wholes
pub mod Opens
