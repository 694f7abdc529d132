pub mod Journal
pub mod JournalGrammar
pub mod Leaving
