pub mod Endings
pub mod Replaying
