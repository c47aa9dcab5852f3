pub mod Cut
pub mod Judged
pub mod Leaving
pub mod Reaching
pub mod Sharing
pub mod Walking
pub mod Writing
