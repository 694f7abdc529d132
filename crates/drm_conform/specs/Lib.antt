pub mod Answers
pub mod Asked
pub mod Judging
pub mod Tables
pub mod Times
pub mod Words
