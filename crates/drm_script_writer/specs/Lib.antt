pub mod Headers
pub mod Jobs
pub mod Texts
pub mod Journals
pub mod Recording
