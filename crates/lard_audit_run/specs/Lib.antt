pub mod Audited
pub mod Causes
pub mod Reports
pub mod Runs
pub mod Seen
