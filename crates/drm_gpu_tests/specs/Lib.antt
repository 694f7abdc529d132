pub mod Pairs
pub mod Locks
