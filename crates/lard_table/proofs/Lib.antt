pub mod Map
mod Ordered
