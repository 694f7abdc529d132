pub mod CoreJournal
pub mod JournalReaders
pub mod Records
pub mod Taken
pub mod Turns
