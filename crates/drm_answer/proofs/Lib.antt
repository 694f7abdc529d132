pub mod Placed
pub mod ShortNumbers
