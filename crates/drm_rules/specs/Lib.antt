pub mod Conforms
pub mod Lines
pub mod Rows
pub mod Rules
pub mod Tables
