pub mod Chunks
pub mod Commands
pub mod Grammar
pub mod Kept
pub mod Run
pub mod RunGrammar
pub mod Script
