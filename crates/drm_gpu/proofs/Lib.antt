pub mod Lists
pub mod Grown
pub mod Chains
pub mod Packets
pub mod Called
pub mod Holders
pub mod Rounds
mod Claims
pub mod Rooms
pub mod Read
pub mod Statuses
pub mod Built
pub mod Looking
pub mod Left
pub mod Agreeing
