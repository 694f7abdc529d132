pub mod Counted
pub mod RingRows
