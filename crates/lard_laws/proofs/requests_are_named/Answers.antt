-- By what each rule lets a connection's records say.
use Rattle.lard_laws.proofs.BackingRuns.{requests-named}
use Rattle.lard_laws.proofs.requests_are_named.Goals as goal

pub returns : goal.returns
returns c = record { names = requests-named }
