-- The motion law, over every run of the cluster.
use Rattle.std.specs.Prelude.{◌≡◌, ℕ, List, [], Ok}
use Rattle.lard_law_view.specs.Prelude.{Config, EachStep, IsReached, Machine, config_check, steps}
use Rattle.lard_law_connections.specs.Motion.{MustMove}

-- Each step of each connection is as its way so far lets it be.
abbrev pub ConnectionsMoveInSteps : Type 0
ConnectionsMoveInSteps = (config : Config) (files : List (List ℕ × List ℕ)) (m : Machine) → config_check config ≡ Ok tt → IsReached config files m → EachStep (MustMove config.nodes) [] (steps m.journal)
