pub mod Limits
pub mod Layout
pub mod Records
pub mod Book
pub mod Frame
pub mod Valid
pub mod Examples
