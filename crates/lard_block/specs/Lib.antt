pub mod Blocks
pub mod Said
