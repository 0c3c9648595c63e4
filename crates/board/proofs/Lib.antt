pub mod Columns
pub mod Drawn
pub mod Telling
