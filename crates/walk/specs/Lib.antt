pub mod Walking
pub mod Looking
pub mod Shifting
pub mod AsWritten
