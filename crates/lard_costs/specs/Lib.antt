pub use Rattle.lard_loads.specs.Tally
pub mod Costs
pub mod Later
pub mod Laws
