pub mod Viewer
pub mod RefusedPackets
pub mod RefusedUpdates
pub mod RefusedOrders
pub mod RefusedMeaning
pub mod Captures
pub mod MarksOfFills
pub mod MarksOfFrames
pub mod MarksOfCaches
pub mod MarksOfOrders
pub mod Written
pub mod Accepted
pub mod Streams
pub mod BrushesAndImages
pub mod Texts
pub mod ImagesAndCopies
pub mod BlocksOfPixels
pub mod SidesBelowOne
pub mod Cells
pub mod BoundsOfOrders
pub mod EdgesOfUpdates
pub mod DepthsOnTheWire
pub mod FastPath
pub mod FastInput
mod Sample
mod Handshake
mod Clients
mod Changes
mod Meanings
mod ViewersHandshake
mod RefusedHosts
mod HostsFields
