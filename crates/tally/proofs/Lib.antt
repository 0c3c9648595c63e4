pub mod Passing
pub mod Raw
pub mod Closing
pub mod Sums
