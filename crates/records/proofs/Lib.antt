pub mod Tests
pub mod Frames
pub mod Cascade
pub mod Laid
pub mod Encoding
pub mod Widths
pub mod Following
pub mod Accepted
