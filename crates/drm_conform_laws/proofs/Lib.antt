pub mod LineLists
pub mod PlainlyKept
pub mod RunsTold
pub mod StepsTold
