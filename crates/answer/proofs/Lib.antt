pub mod Chain
pub mod Amended
pub mod Readback
pub mod Used
pub mod Several
pub mod Once
