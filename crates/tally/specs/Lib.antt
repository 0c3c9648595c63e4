pub mod Tallying
pub mod Private
pub mod Examples
