pub use Rattle.lard_settling.specs.Events
pub use Rattle.lard_settling.specs.Settling
pub use Rattle.lard_world.specs.Enough
pub use Rattle.lard_world.specs.Lawful
