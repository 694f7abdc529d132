pub mod Endings
pub mod Failures
pub mod Replaying
pub mod Leaving
pub mod Comparing
pub mod Journals
pub mod Engines
pub mod Filling
