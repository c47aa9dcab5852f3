pub mod Resting
pub mod Ripening
pub mod Listing
