pub mod Added
pub mod CommandReaders
pub mod Joined
pub mod Known
pub mod RunReaders
pub mod ScriptReaders
