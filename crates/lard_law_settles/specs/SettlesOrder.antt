-- Runs with settles: their settles stand in order.
use Rattle.std.specs.Prelude.{ℕ, List}
use Rattle.lard_law_view.specs.Prelude.{Config, Event, Machine, machine_start}
use Rattle.lard_settling.specs.Events.{LeadsTo}
use Rattle.lard_settling.specs.Order.{SettlesInOrder}

-- In the journal of every run each inner step stands between the event and the closing record of its settle, and no event of the
-- schedule does, also where the run ended inside a settle.
abbrev pub RunsSettleInOrder : Type 0
RunsSettleInOrder = (config : Config) (files : List (List ℕ × List ℕ)) (es : List Event) (m : Machine) → LeadsTo (machine_start config files) es m → SettlesInOrder m.journal
