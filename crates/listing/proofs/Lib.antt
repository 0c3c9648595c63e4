pub mod Writing
pub mod Numbers
pub mod Reading
pub mod Bounds
pub mod Asking
