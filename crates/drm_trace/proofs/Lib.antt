pub mod Cutting
pub mod LogRead
pub mod Marks
pub mod NamesMet
pub mod Spans
