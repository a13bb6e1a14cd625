pub mod Clips
pub mod CopyCode
mod Cuts
mod Flags
mod Frames
mod Inks
mod Kept
mod Marks
mod Paintings
mod Places
mod Repaint
mod Runs
mod Shifts
