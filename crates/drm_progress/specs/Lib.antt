pub mod Going
pub mod Cores
