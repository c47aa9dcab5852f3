-- For whom jobs are, over every run of the cluster.
use Rattle.std.specs.Prelude.{◌≡◌, ℕ, List, Some, Ok}
use Rattle.lard_law_view.specs.Prelude.{Config, Has, IsReached, Job, Machine, NodeState, config_check, conn, node_at}
use Rattle.lard_law_connections.specs.Places.{IsDecided}

-- Each job of each disk is for a node that decided its connection in the epoch of the job, or in a later one.
abbrev pub JobsComeFromHome : Type 0
JobsComeFromHome = (config : Config) (files : List (List ℕ × List ℕ)) (m : Machine) → config_check config ≡ Ok tt → IsReached config files m
    → (i : ℕ) (s : NodeState) → node_at m.nodes i ≡ Some s → (job : Job) → Has job s.disk → IsDecided job.epoch.0 ((conn m job.c).part.nodes job.origin).row
