pub mod Cells
pub mod Private
pub mod Examples
