pub mod Sizes
pub mod Heads
pub mod Mixed
pub mod Lacking
pub mod Written
pub mod OneByOne
pub mod SamplePackets
