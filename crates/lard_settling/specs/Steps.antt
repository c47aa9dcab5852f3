-- What a settle does of the whole: its event, inner steps, and its closing record.
use Rattle.std.specs.Prelude.{ℕ, zero, suc, [], ◌∷◌, ◌++◌, length, Result, Ok, Err}
use Rattle.lard_law_view.specs.Prelude.{Event, Machine, Rec, StepFault, limit_reached, machine_step, passed, turned_at, unless_limit}
use Rattle.lard_base.specs.declared.event.Event.TheVariants as event
use Rattle.lard_journal.specs.declared.rec.Rec.TheVariants as rec

-- n, which a step has led to from m, where that step is no event of the schedule but an inner one
abbrev pub as_inner : Machine → Machine → Machine
as_inner m n = record n { events = m.events; journal = turned_at (length m.journal) n.journal }

abbrev pub inner_given : Machine → Result Machine StepFault → Result Machine StepFault
inner_given m (Ok n) = Ok (as_inner m n)
inner_given m (Err fault) = Err fault

-- an inner step does what the step of its event does
unfoldable pub inner_step : Machine → Event → Result Machine StepFault
inner_step m e = inner_given m (machine_step m e)

-- the event of a settle is recorded, unless a limit was reached
unfoldable pub settle_begun : Machine → ℕ → Result Machine StepFault
settle_begun m rounds = unless_limit (limit_reached m) (Ok (passed m (event.Settle rounds) []))

-- so many rounds were done, and this is left
abbrev pub closing : ℕ → ℕ → Rec
closing rounds zero = rec.Settled rounds
closing rounds (suc left) = rec.Unsettled rounds (suc left)

-- a settle ends
abbrev pub settle_closed : Machine → ℕ → ℕ → Machine
settle_closed m rounds left = record m { journal = m.journal ++ closing rounds left ∷ [] }
