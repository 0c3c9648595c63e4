pub mod Turns
pub mod Judging
pub mod Places
pub mod Steps
pub mod Laws
pub mod Writing
