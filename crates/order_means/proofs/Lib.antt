pub mod Pieces
pub mod Packet
pub mod Orders
pub mod Cut
mod Indication
mod FastPackets
pub mod KindRead
pub mod PointerFound
pub mod PieceJoined
pub mod PacketPieces
pub mod ReadPieces
pub mod WithoutPointers
mod PacketRows
