pub mod Bounds
pub mod Serving
