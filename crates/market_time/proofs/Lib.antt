pub mod Plain
pub mod BookA
pub mod Tally
pub mod Cells
pub mod Demand
