-- What holds of a generated schedule where its settle begins: the rounds of the settle reach the bound of the journal.
use Rattle.std.specs.Prelude.{◌≡◌, ℕ, ◌≤◌, List, [], ◌∷◌, ◌++◌, map}
use Rattle.lard_base.specs.declared.config.Config.{Config}
use Rattle.lard_base.specs.declared.event.Event.{Event}
use Rattle.lard_base.specs.declared.event.Event.TheVariants.{Settle}
use Rattle.lard_bound.specs.Bound.{IsOrdinary, settling_bound}
use Rattle.lard_rules.specs.declared.machine.Machine.{Machine}
use Rattle.lard_rules.specs.Machine.{machine_start}
use Rattle.lard_files.specs.Files.{file_at}
use Rattle.lard_generate.specs.Clients.{drawn_actions, drawn_fate, drawn_open, action_event, rounds}
use Rattle.lard_generate.specs.Draws.{each, seeded}
use Rattle.lard_generate.specs.Files.{drawn_size}
use Rattle.lard_generate.specs.Generated.{generated}
use Rattle.lard_settling.specs.Events.{GoesThrough}

-- the events of a generated schedule before its settle
abbrev pub before_settle : ℕ → ℕ → List Event
before_settle seed clients =
    let sizes = each drawn_size 256 (seeded seed) in
    let opens = each drawn_open clients sizes.1 in
    let actions = each drawn_actions clients opens.1 in
    let fates = each drawn_fate clients actions.1 in
    opens.0 ++ map action_event actions.0 ++ fates.0

-- for how many rounds it settles
abbrev pub generated_rounds : ℕ → ℕ → ℕ
generated_rounds seed clients =
    let sizes = each drawn_size 256 (seeded seed) in
    let opens = each drawn_open clients sizes.1 in
    rounds clients sizes.0 (each drawn_actions clients opens.1).0

-- its settle is its last event
abbrev pub SettlesLast : Type 0
SettlesLast = (seed clients : ℕ) → (generated seed clients).events ≡ before_settle seed clients ++ Settle (generated_rounds seed clients) ∷ []

-- Where all its events before the settle were done, the rounds reach the bound of the journal so far, and this journal is ordinary.
abbrev pub RoundsReachTheBound : Type 0
RoundsReachTheBound = (seed clients : ℕ) (config : Config) (m : Machine) → GoesThrough (machine_start config (generated seed clients).files) (before_settle seed clients) m
    → (settling_bound (file_at (generated seed clients).files) m.journal ≤ generated_rounds seed clients) × IsOrdinary m.journal
