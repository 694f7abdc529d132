pub mod Streams
pub mod Transfer
