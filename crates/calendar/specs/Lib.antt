pub mod Gregorian
pub mod Answers
pub mod Examples
