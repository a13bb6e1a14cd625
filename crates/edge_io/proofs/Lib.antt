pub mod Lists
pub mod Gates
mod FeedLemmas
mod Rows
mod StoreLemmas
mod StoreRows
pub mod BufferLemmas
pub mod LineLemmas
pub mod FindLemmas
