pub mod Apart
pub mod Within
pub mod InRange
pub mod Repeats
pub mod PacketUses
pub mod Distinct
pub mod Moves
pub mod Sound
