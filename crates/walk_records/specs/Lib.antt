pub mod Walked
pub mod Private
