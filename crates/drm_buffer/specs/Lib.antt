pub mod Memory
pub mod Stored
pub mod Places
