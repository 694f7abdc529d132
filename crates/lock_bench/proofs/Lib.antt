pub mod Below
pub mod Flags
