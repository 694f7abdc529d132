pub mod Reservation
pub mod Entries
pub mod Latest
pub mod Stored
pub mod Noting
pub mod Active
