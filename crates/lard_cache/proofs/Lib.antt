mod Entries
pub mod Fronts
