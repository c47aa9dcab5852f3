pub mod Maps
pub mod Ordered
pub mod Held
pub mod Lists
pub mod Renewed
pub mod Lengths
