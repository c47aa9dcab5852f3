mod Entries
pub mod Lookups
