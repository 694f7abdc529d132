pub mod Kept
pub mod Cleared
pub mod Inserted
