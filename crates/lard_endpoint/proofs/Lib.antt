pub mod Adoption
pub mod Ends
pub mod Fresh
pub mod Numbers
pub mod Silence
pub mod Sound
pub mod Windows
