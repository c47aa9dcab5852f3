pub mod Beginning
pub mod Runs
pub use Rattle.lard_laws.proofs.Lawful
pub use Rattle.lard_law_settles.proofs.EnoughLaw as Law
