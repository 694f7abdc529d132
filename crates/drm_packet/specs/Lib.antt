pub mod Effect
pub mod Touches
pub mod Laws
pub mod Parts
