pub mod Cutting
pub mod Given
pub mod Matched
pub mod Compared
pub mod Unread
