pub mod Causes
pub mod Config
pub mod Members
pub mod Memory
pub mod Outside
pub mod Parts
pub mod Spelling
