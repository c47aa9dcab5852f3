-- What the code of a replay has in hand, as the rules see it.
use Rattle.std.specs.Prelude.{◌≡◌, ℕ, List, Option, Some, None, Result, Ok, Err}
use Rattle.lard_law_view.specs.Prelude.{Event, Machine, StepFault}
use Rattle.lard_base.specs.declared.event.Event.TheVariants as event
use Rattle.lard_rules.specs.declared.fault.StepFault.TheVariants as fault
use Rattle.lard_settling.specs.Settling.{Stop}
use Rattle.lard_app.specs.declared.replay.Replay.{Replay}
use Rattle.lard_app.specs.declared.status.Status.{Status}
use Rattle.lard_app.specs.declared.status.Status.TheVariants.{NoMemory, Refused}
use Rattle.lard_app.specs.Replay.{PassesLine, Progress, came_to, ended_by, event_gain, replay_moved}

abbrev pub replay_seen : Replay → Progress
replay_seen r = record { reader = r.reader; config = r.config; files = r.files; listed = r.listed.items; lines = r.lines; read = r.read; machine = r.world.machine }

-- a call that writes nothing did what the rules give
abbrev pub Sets : Result Progress Status → Progress → Result (Unit {0}) Status → Type 0
Sets given t (Ok _) = given ≡ Ok t
Sets given t (Err status) = given ≡ Err status

-- a call that keeps something did what the rules give, or memory ran out
abbrev pub Adds : Result Progress Status → Progress → Result (Unit {0}) Status → Type 0
Adds given t (Ok _) = given ≡ Ok t
Adds given t (Err NoMemory) = Unit {0}
Adds given t (Err (Refused line why)) = given ≡ Err (Refused line why)
Adds given t (Err _) = ⊥

-- for how many rounds an event settles
abbrev pub rounds_of : Event → Option ℕ
rounds_of (event.Settle rounds) = Some rounds
rounds_of _ = None

-- a call did what comes of an event, and wrote what it gave
abbrev pub DoesEvent : Result Machine Stop → Progress → Option (List ℕ) → Option (List ℕ) → Progress → Result (Unit {0}) Status → Type 0
DoesEvent given s old new t result = PassesLine (replay_moved s given) (event_gain s.machine (came_to given)) old new t result

-- A fault ends a settle at a line: what came was written, but where memory ran out.
abbrev pub StopsAtLine : StepFault → ℕ → List ℕ → Option (List ℕ) → Option (List ℕ) → Status → Type 0
StopsAtLine fault.NoMemory line text old new status = (status ≡ NoMemory) × (new ≡ old)
StopsAtLine f line text old new status = (t : Progress) → PassesLine (Err (ended_by line f)) text old new t (Err status)
