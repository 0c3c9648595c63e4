pub mod Dates
pub mod Agreeing
pub mod Totals
pub mod Example
pub mod Books
pub mod Tallied
pub mod Steady
