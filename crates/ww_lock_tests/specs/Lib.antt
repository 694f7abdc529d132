pub mod Wards
pub mod Numbers
