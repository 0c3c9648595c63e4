pub mod Forms
pub mod Meaning
pub mod Fitting
pub mod Used
pub mod Amending
