pub mod Filled
pub mod Fitting
pub mod Lines
pub mod Scripts
pub mod Journals
pub mod Recorded
