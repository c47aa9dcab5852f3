pub mod Delivered
pub mod Kept
pub mod Lent
pub mod Numbered
pub mod Sound
