pub mod Reasons
pub mod Standing
pub mod Laws
pub mod Watching
pub mod Retired
pub mod Said
pub mod Released
pub mod Awaited
