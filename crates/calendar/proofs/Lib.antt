pub mod Totals
pub mod Years
pub mod Dates
pub mod Theorems
