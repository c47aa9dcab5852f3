pub mod Accepted
pub mod Counting
pub mod Emitting
pub mod Outcomes
pub mod TrueSegments
pub mod Windows
pub mod Writable
