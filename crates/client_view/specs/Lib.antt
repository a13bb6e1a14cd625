pub mod Told
pub mod Views
pub mod Widened
pub mod Refusals
pub mod Tiles
pub mod OnTheWay
pub mod Clients
