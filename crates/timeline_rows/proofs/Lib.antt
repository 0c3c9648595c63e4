pub mod Row
pub mod Seen
