-- The whole, as it is seen from outside.
use Rattle.std.specs.Prelude.{Bool, true, false, Result, Ok, Err, refl}
use Rattle.std.specs.Coded.{Coded, code_by, coded×, coded_bool}
use Rattle.lard_rules.specs.contracts.machine.Machine as machine
use Rattle.lard_rules.specs.declared.fault.StepFault.{StepFault}
use Rattle.lard_rules.specs.declared.fault.StepFault.TheVariants.{NoMemory}
use Rattle.lard_rules.specs.declared.machine.Machine.{Machine}

-- memory ran out in a call
abbrev pub is_short : Result (Unit {0}) StepFault → Bool
is_short (Ok done) = false
is_short (Err NoMemory) = true
is_short (Err _) = false

pub record WorldStanding : Type 0 where
  pub machine : Machine
  pub spoiled : Bool  -- memory ran out in a step: no further step is possible

abbrev pub coded_world_standing : Coded WorldStanding
coded_world_standing = code_by _ (coded× machine.the_row.coded coded_bool) (λ s. (s.machine, s.spoiled)) (λ p. record { machine = p.0; spoiled = p.1 }) (λ _. refl)
