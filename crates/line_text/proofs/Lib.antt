mod Rows
pub mod PartLemmas
pub mod DigitLemmas
pub mod HexadecimalLemmas
pub mod NumberLemmas
