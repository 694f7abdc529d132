pub mod HeaderReaders
pub mod InTurn
pub mod JobReaders
pub mod PacketReaders
pub mod RingLists
pub mod SpelledLines
pub mod WordKinds
