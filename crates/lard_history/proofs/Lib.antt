pub mod Acting
pub mod Counts
pub mod Each
pub mod Lifting
pub mod Seeing
pub mod Stepping
pub mod Tales
