pub mod Awaiting
pub mod Bounds
pub mod Hand
pub mod Place
pub mod Sound
pub mod Stores
pub mod Timers
