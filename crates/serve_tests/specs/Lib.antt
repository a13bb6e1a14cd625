pub mod CueCounts
