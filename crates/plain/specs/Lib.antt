pub mod Plain
pub mod Books
pub mod Deciding
pub mod Private
pub mod Examples
