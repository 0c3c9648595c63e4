pub mod Asking
pub mod Private
pub mod Said
