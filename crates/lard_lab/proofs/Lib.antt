pub mod Beginning
mod Chosen
mod Entries
mod Following
mod Kept
mod Choosing
mod Lines
mod Loads
pub mod Reported
mod Rooms
pub mod Sizes
mod Soundness
mod Subtraces
