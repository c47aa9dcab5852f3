pub mod Arriving
pub mod Control
pub mod Laws
pub mod Leaving
pub mod Moving
