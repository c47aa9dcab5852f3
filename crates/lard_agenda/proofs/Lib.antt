pub mod Due
mod Entries
pub mod Few
mod Folds
pub mod Follows
pub mod Holders
pub mod Kept
mod Listed
mod Numbers
pub mod Packets
pub mod Timers
