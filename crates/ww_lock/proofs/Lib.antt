pub mod Lists
mod LocksKept
mod PivotsKept
mod LooksKept
mod TasksKept
mod Kept
mod Trying
mod Opening
mod Waiting
mod Turning
mod Finding
mod Closing
mod Releasing
mod Crosses
pub mod Sharing
mod Ready
