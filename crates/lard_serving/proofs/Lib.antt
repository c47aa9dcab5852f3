pub mod Loops
mod Responses
