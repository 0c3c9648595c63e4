pub mod Joining
pub mod Amending
