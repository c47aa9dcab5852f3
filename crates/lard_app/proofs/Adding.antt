-- A call that adds a file writes nothing.
use Rattle.std.proofs.Common.{ℕ, List, [], Option, Result, Ok, Err, refl}
use Rattle.std.proofs.KnownBytes.{Appends-nil}
use Rattle.lard_app.specs.declared.status.Status.{Status}
use Rattle.lard_app.specs.declared.status.Status.TheVariants.{Done, Usage, Refused, ReadFault, WriteFault, NoMemory, Limit}
use Rattle.lard_app.specs.Replay.{PassesLine, Progress}
use Rattle.lard_app.specs.Seen.{Adds}

pub adds-passes : (given : Result Progress Status) (t : Progress) (old : Option (List ℕ)) (r : Result (Unit {0}) Status) → Adds given t r → PassesLine given [] old old t r
adds-passes given t old (Ok done) h = (h, Appends-nil old)
adds-passes given t old (Err (Refused line why)) h = (h, Appends-nil old)
adds-passes given t old (Err NoMemory) h = record { front = []; rest = []; is = refl; written = Appends-nil old }
adds-passes given t old (Err Done) h = absurd h
adds-passes given t old (Err Usage) h = absurd h
adds-passes given t old (Err ReadFault) h = absurd h
adds-passes given t old (Err WriteFault) h = absurd h
adds-passes given t old (Err (Limit line what)) h = absurd h
