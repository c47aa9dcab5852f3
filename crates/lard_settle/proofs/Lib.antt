pub mod Going
pub mod Growth
pub mod Ruled
pub mod Enough
pub use Rattle.lard_world.proofs.Lawful
pub use Rattle.lard_world.proofs.Runs
