pub mod Instants
pub mod Windows
pub mod Order
