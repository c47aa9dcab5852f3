mod Batches
mod Beginnings
mod Calls
pub mod Charged
mod Choices
pub mod Counts
pub mod Firsts
pub mod Nodes
pub mod Standings
pub mod Sums
mod Tallies
