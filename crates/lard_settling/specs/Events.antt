-- Runs with settles: what an event of a schedule does, and what such events lead to.
use Rattle.std.specs.Prelude.{◌≡◌, ◌⊎◌, ◌<◌, ℕ, List, [], ◌∷◌, ◌++◌, length, Result, Ok, Err}
use Rattle.lard_law_view.specs.Prelude.{Event, HasRule, Machine, StepFault, machine_step}
use Rattle.lard_base.specs.declared.event.Event.TheVariants as event
use Rattle.lard_settling.specs.declared.settled.Settled.{Settled}
use Rattle.lard_settling.specs.Settling.{Stop, settled}

-- a settle leads on where it comes to its end
abbrev pub settled_to : Result (Machine × Settled) Stop → Result Machine Stop
settled_to (Ok (n, s)) = Ok n
settled_to (Err stop) = Err stop

-- an event that is no settle does one step, or none
abbrev pub stepped_from : Machine → Result Machine StepFault → Result Machine Stop
stepped_from m (Ok n) = Ok n
stepped_from m (Err fault) = Err (m, fault)

-- what an event of a schedule does: a step, or a settle; where it is not done, or not to its end, how far it came, and the fault
unfoldable pub event_step : Machine → Event → Result Machine Stop
event_step m (event.Settle rounds) = settled_to (settled m rounds)
event_step m e = stepped_from m (machine_step m e)

-- an event that may come: it has a rule, or it is a settle
abbrev pub MayCome : Event → Type 0
MayCome (event.Settle rounds) = Unit {0}
MayCome e = HasRule e

-- each event was done, one after another, from a state to a state
abbrev pub GoesThrough : Machine → List Event → Machine → Type 0
GoesThrough m [] n = n ≡ m
GoesThrough m (e ∷ es) n = (k : Machine) × MayCome e × (event_step m e ≡ Ok k) × GoesThrough k es n

-- The last event is a settle in which the run ended, once it had begun, behind others that were done.
pub record EndsInside (m : Machine) (es : List Event) (n : Machine) : Type 0 where
  pub before : List Event
  pub rounds : ℕ
  pub are : es ≡ before ++ event.Settle rounds ∷ []
  pub behind : Machine
  pub goes : GoesThrough m before behind
  pub fault : StepFault
  pub stops : event_step behind (event.Settle rounds) ≡ Err (n, fault)
  pub begun : length behind.journal < length n.journal

-- what events lead to: each was done, or the last is a settle in which the run ended
abbrev pub LeadsTo : Machine → List Event → Machine → Type 0
LeadsTo m es n = GoesThrough m es n ⊎ EndsInside m es n
