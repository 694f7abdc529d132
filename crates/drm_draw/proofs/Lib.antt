pub mod Drawn
pub mod Steps
pub mod Turns
