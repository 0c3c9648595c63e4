pub mod Judging
pub mod Items
pub mod Before
