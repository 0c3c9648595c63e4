pub mod Rows
pub mod OpenRows
