pub mod Watches
pub mod Entries
pub mod Tracks
pub mod Steps
pub mod Traces
pub mod Runs
pub mod Pens
pub mod Rows
