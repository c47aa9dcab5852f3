-- Runs with settles: each takes rounds, and its closing record tells what is left.
use Rattle.std.specs.Prelude.{◌≡◌, ℕ, List, [], Ok}
use Rattle.lard_law_view.specs.Prelude.{Config, Event, Machine, config_check, machine_start}
use Rattle.lard_law_settles.specs.Rounds.{SettlesTakeRounds}
use Rattle.lard_settling.specs.Events.{LeadsTo}

abbrev pub RunsTakeRounds : Type 0
RunsTakeRounds = (config : Config) (files : List (List ℕ × List ℕ)) (es : List Event) (m : Machine) → config_check config ≡ Ok tt → LeadsTo (machine_start config files) es m → SettlesTakeRounds config.nodes [] m.journal
