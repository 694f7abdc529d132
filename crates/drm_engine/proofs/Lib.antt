pub mod Failures
pub mod Pieces
pub mod Places
pub mod Short
pub mod Digits
pub mod Fillings
pub mod Putting
pub mod Placings
