mod Ends
mod Pairs
pub mod Cutting
pub mod Division
pub mod Skips
mod Said
