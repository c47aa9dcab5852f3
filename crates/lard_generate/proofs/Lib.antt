pub mod Answered
mod Assembling
mod Costs
mod Listing
pub mod Making
mod Paths
pub mod Ranges
pub mod Spelled
