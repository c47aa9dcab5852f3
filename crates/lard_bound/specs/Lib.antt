pub mod Bound
pub mod Seats
pub mod Units
pub mod Spots
pub mod Chains
pub mod Nears
pub mod Progress
