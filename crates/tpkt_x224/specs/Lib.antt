pub mod Tpkt
pub mod Pieces
pub mod Request
pub mod Confirm
pub mod Data
pub mod Grammar
