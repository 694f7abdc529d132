pub mod Judging
pub mod TextChains
pub mod Timed
