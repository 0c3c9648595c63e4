pub mod Deciding
pub mod Looking
pub mod Table
pub mod Steady
