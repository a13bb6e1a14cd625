mod Rows
pub mod Recorded
pub mod Whole
pub mod Appended
pub mod Recorders
mod Written
mod Shows
pub mod Runs
mod ShownRows
mod WrittenRows
