pub mod Trailing
pub mod Showing
pub mod Kept
