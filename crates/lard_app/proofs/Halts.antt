-- How far the machine came where a line ended the run.
use Rattle.std.proofs.Common.{◌≡◌, ℕ, List, Option, Result, Err, sym, ap, subst}
use Rattle.lard_law_view.specs.Prelude.{Machine, StepFault}
use Rattle.lard_rules.specs.declared.fault.StepFault.TheVariants as fault
use Rattle.lard_settling.specs.Settling.{Stop}
use Rattle.lard_app.specs.declared.status.Status.{Status}
use Rattle.lard_app.specs.declared.status.Status.TheVariants.{Limit, Refused}
use Rattle.lard_app.specs.Generate.{Happens}
use Rattle.lard_app.specs.Replay.{HaltsAt, Writes, came_to}
use Rattle.lard_app.specs.Seen.{StopsAtLine}

-- as far as it was to
pub there-halts : (given m : Machine) (r : Result (Unit {0}) Status) → m ≡ given → HaltsAt given m r
there-halts given m (Err (Refused line why)) is = is
there-halts given m (Err (Limit line what)) is = is
there-halts given m _ is = tt

-- a call that writes ends no run in this way
pub writes-halts : (given m : Machine) (text : List ℕ) (old new : Option (List ℕ)) (r : Result (Unit {0}) Status) → Writes text old new r → HaltsAt given m r
writes-halts given m text old new (Err (Refused line why)) h = absurd h
writes-halts given m text old new (Err (Limit line what)) h = absurd h
writes-halts given m text old new _ h = tt

-- an event that was not done came as far as it could, unless memory ran out
pub event-halts : (given : Result Machine Stop) (m : Machine) (f : StepFault) (line : ℕ) (text : List ℕ) (old new : Option (List ℕ)) (status : Status)
    → Happens given m (Err f) → StopsAtLine f line text old new status → HaltsAt (came_to given) m (Err status)
event-halts given m fault.NoMemory line text old new status done stops = subst (λ (s : Status). HaltsAt (came_to given) m (Err s)) (sym stops.0) tt
event-halts given m (fault.Refused reason) line text old new status done stops = there-halts (came_to given) m (Err status) (sym (ap came_to done))
event-halts given m (fault.Limit what) line text old new status done stops = there-halts (came_to given) m (Err status) (sym (ap came_to done))
