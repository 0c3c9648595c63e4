pub mod Spans
pub mod Timeline
pub mod Totals
pub mod Examples
