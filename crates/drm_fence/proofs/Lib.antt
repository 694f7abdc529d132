pub mod Pairs
pub mod Counted
pub mod Ring
pub mod Linking
