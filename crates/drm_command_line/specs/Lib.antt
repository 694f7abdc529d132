pub mod CommandLine
pub mod Known
