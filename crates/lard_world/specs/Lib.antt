pub mod World
pub mod Runs
pub use Rattle.lard_laws.specs.Lawful
pub use Rattle.lard_law_settles.specs.Enough
