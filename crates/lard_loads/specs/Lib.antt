pub mod Charges
pub mod Loads
pub mod Order
pub mod Running
pub mod Slot
pub mod Tally
