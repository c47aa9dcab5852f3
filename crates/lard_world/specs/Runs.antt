-- What holds of every world that can take a step.
use Rattle.lard_rules.specs.declared.machine.Machine.{Machine}
use Rattle.lard_stepping.specs.Sound.{IsSet, IsMachineSound}
use Rattle.lard_settling.specs.Written.{IsWrittenOut}

-- With its settles written out, the journal is that of some events; and the code can rely on the machine.
pub record IsRun (m : Machine) : Type 0 where
  pub reached : IsWrittenOut m.config m.files m
  pub set : IsSet m.config
  pub sound : IsMachineSound m
