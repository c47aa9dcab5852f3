pub mod Events
pub mod Left
pub mod Order
pub mod Settling
pub mod Steps
pub mod Written
