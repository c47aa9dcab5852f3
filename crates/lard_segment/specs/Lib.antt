pub mod Fields
pub mod Checksum
pub mod Options
pub mod Segment
pub mod Control
