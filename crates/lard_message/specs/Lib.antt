pub mod Kinds
pub mod Message
pub mod Reading
pub mod Faults
pub mod Laws
pub use Rattle.lard_base.specs.Parts
