pub mod Rows
pub mod Telling
pub mod Written
pub mod Examples
