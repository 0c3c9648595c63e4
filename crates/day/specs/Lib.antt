pub mod Governing
pub mod Narrowing
pub mod Keeping
pub mod Days
pub mod Meaning
pub mod Examples
pub mod Venues
