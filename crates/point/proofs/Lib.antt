pub mod Closing
pub mod Said
