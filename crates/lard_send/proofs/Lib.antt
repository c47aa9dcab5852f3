pub mod Firsts
pub mod Parts
pub mod Sent
pub mod Unacknowledged
