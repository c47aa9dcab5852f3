pub mod Control
pub mod Arriving
pub mod Leaving
pub mod Laws
