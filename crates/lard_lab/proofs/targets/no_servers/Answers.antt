-- No members are no flags.
use Rattle.std.proofs.Common.{ℕ, ap}
use Rattle.lard_sets.proofs.Flags.{no_flags}
use Rattle.lard_lab.proofs.targets.no_servers.Goals as goal

pub returns : goal.returns
returns c = ap (λ (m : ℕ). record { members = m; modified = record { 0 = 0 } }) (no_flags c.none.result c.none.ensures)
