pub mod Items
pub mod Uses
pub mod Conflicts
pub mod Fault
pub mod PacketUses
pub mod Ranges
pub mod Sound
pub mod Laws
