pub mod Marks
pub mod Watching
pub mod Candidates
pub mod Heads
pub mod Parts
pub mod Begun
pub mod Calls
