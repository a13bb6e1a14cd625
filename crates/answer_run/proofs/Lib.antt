pub mod Seated
pub mod Framed
pub mod Joined
pub mod Streams
pub mod Present
pub mod Fronts
pub mod Visiting
pub mod Pieces
pub mod Numbers
pub mod Cut
pub mod Served
mod Rows
