pub mod Kept
pub mod Pending
pub mod Laws
