pub mod Laws
pub mod ReadBack
pub mod Runs
pub mod Stretches
pub mod Worked
