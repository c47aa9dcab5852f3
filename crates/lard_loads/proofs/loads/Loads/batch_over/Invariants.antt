use Rattle.std.proofs.Common.{◌≡◌, ◌||◌, true, is_some, nat_lt}
use Rattle.std.specs.FinMap as map
use Rattle.lard_loads.specs.Tally.{batch_ended, open_shares}
use Rattle.lard_loads.proofs.loads.Loads.batch_over.Given as goal

-- the batch's end is the same, and a share was open where one was ended or one is left
abbrev pub invariant-loop-any : goal.invariant-loop-any
invariant-loop-any l = (is_some (map.get l.self.standings l.c) ≡ true) × (batch_ended l.self l.c ≡ batch_ended l.fn.self l.c) × ((l.any || nat_lt 0 (open_shares l.self l.c)) ≡ nat_lt 0 (open_shares l.fn.self l.c))

abbrev pub decreases-loop-any : goal.decreases-loop-any
decreases-loop-any l = open_shares l.self l.c
