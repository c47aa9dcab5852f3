pub mod Changes
mod Entries
pub mod Flags
