pub mod Units
pub mod Zone
pub mod Answers
pub mod Throughout
pub mod Steady
pub mod Private
pub mod Examples
pub mod Clocks
