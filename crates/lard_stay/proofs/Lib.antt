pub mod Arrived
pub mod Entering
pub mod Falling
pub mod Naming
