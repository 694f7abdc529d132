pub mod Commute
pub mod Sizes
pub mod PartEffects
pub mod InStores
