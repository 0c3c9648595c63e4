pub mod Passing
pub mod Headers
pub mod Listing
pub mod Changes
pub mod Laws
pub mod Known
pub mod Fronts
