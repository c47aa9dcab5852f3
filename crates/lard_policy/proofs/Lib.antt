mod Choice
pub mod Order
pub mod Relief
mod Serving
