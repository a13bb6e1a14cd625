mod Scripts
mod Drawings
mod Sessions
mod Premises
mod Limits
mod Meanings
mod Paints
mod CaptureLines
pub mod Fills
pub mod Frames
pub mod Rooms
pub mod Caches
pub mod CautiousScripts
pub mod DepthScripts
pub mod FastScripts
pub mod ManyFills
pub mod Largest
pub mod Headlines
pub mod HeadlinesOfRooms
pub mod SmallPictures
pub mod Takes
pub mod FillRows
pub mod CopyRows
pub mod CacheRows
pub mod TileRows
pub mod OrderRows
pub mod CautiousRows
pub mod FastRows
mod MeaningsOfFrames
mod PendingRows
mod Depths
mod DepthRows
pub mod Pointers
