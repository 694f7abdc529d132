pub mod Sizes
pub mod Sums
pub mod Lanes
pub mod Written
pub mod Stores
