pub mod Known
pub mod Pens
pub mod Unran
pub mod Kept
pub mod RowFacts
pub mod Traced
