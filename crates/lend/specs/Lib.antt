pub mod Lending
pub mod Refusals
