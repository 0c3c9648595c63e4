pub mod Counted
pub mod Demand
pub mod Starred
