pub mod Text
pub mod Listing
pub mod Private
pub mod Examples
