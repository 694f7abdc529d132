pub mod Grammar
pub mod Header
pub mod Job
pub mod Spelling
