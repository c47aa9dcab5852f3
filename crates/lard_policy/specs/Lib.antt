pub use Rattle.lard_loads.specs.Tally
pub mod First
pub mod Laws
