pub mod Bytes
pub mod Formats
pub mod Kinds
pub mod Log
pub mod Names
pub mod Pieces
pub mod Rest
