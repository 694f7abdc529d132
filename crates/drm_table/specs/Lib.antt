-- What the tables of a device stand for, and what they keep.
pub mod Plain
pub mod Tables
pub mod Outside
pub mod Building
