pub mod Lists
pub mod Sums
pub mod Work
pub mod Heads
pub mod Falls
pub mod Stuck
pub mod Steps
pub mod Runs
