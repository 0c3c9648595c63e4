pub mod Happenings
pub mod Seeking
pub mod Order
pub mod Keeping
