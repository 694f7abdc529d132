pub mod Exact
pub mod Judged
pub mod Passing
