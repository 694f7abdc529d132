pub mod Phases
pub mod Fences
pub mod Waiting
pub mod Cells
pub mod Linked
