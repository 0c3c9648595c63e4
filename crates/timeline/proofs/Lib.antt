pub mod Parts
pub mod Closing
pub mod Shape
pub mod Bounds
