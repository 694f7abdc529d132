pub mod Adding
pub mod Cuts
pub mod Ends
mod Between
pub mod Naming
pub mod Parts
mod Telling
mod Refusals
pub mod Texts
pub mod Saying
