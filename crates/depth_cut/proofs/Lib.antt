pub mod Rows
pub mod Styled
