mod Sums
mod Counting
mod Serving
mod Admitting
mod Clients
mod Requests
mod Writing
mod Settled
mod Starting
mod Joining
pub mod Runs
