mod Behind
mod Homes
mod Files
pub mod Adding
mod Keeping
mod Sounding
mod Lifting
mod Settled
mod Running
mod Forming
mod Reporting
