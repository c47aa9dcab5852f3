-- With enough rounds a settle answers that nothing is left, since its world rests.
use Rattle.std.proofs.Common.{ℕ, IfOk, OnOk, Result, Ok, Err}
use Rattle.lard_rules.specs.declared.fault.StepFault.{StepFault}
use Rattle.lard_rules.specs.declared.machine.Machine.{Machine}
pub use Rattle.lard_world.proofs.Law.{runs-settle, settles-end-quiet}
use Rattle.lard_world.proofs.Law.{ends-with-enough}
use Rattle.lard_world.specs.Enough.{EndsWithEnough, RestsWithEnough}
use Rattle.lard_settling.specs.declared.settled.Settled.{Settled}
use Rattle.lard_settling.specs.Settling.{Settles, settled}

pub settled-enough : (m : Machine) (rounds : ℕ) (n : Machine) (r : Result Settled StepFault) → Settles (settled m rounds) n r → OnOk r (RestsWithEnough n) → IfOk r (λ s. EndsWithEnough m rounds s)
settled-enough m rounds n (Ok s) h rests = ends-with-enough m rounds n s h rests
settled-enough m rounds n (Err fault) h rests = tt
