pub mod Shown
pub mod Sums
pub mod Replying
