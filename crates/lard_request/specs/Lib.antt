pub mod Fields
pub mod Found
pub mod Head
pub mod Kept
pub mod Target
pub mod Verdict
