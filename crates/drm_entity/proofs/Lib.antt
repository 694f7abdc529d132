pub mod Walks
pub mod Changed
pub mod Room
pub mod Seen
