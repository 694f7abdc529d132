pub mod Chained
pub mod Sights
pub mod Sameness
pub mod Changed
pub mod Longer
pub mod Spans
pub mod Commands
pub mod Numbered
pub mod Putting
pub mod Rows
pub mod Most
pub mod Asked
mod Counting
