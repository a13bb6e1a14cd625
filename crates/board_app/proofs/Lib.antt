pub mod KindsLemmas
pub mod Shades
pub mod BeforeLemmas
