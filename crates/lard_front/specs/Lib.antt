pub mod Hand
pub mod Told
pub mod Asking
pub mod Bounds
pub mod Place
pub mod Returned
