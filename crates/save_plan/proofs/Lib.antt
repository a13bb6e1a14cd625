pub mod BlockFacts
pub mod LeastFree
pub mod Apart
