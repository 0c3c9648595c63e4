pub mod Finding
pub mod Order
pub mod Turns
pub mod Few
pub mod Keeping
pub mod Choosing
pub mod Collecting
