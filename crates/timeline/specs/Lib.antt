pub mod Segments
pub mod Asking
pub mod Private
pub mod Examples
