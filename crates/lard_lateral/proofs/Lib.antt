pub mod Awaited
