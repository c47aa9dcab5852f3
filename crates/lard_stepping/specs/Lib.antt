pub mod Acting
pub mod Lent
pub mod Sound
