pub mod Opening
pub mod Reading
pub mod Filled
pub mod Private
pub mod Values
