pub mod Begins
pub mod Cut
pub mod Growth
pub mod Told
pub mod Turned
pub mod Unique
pub mod Words
