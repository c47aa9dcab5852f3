-- What is read is a job, over every run of the cluster.
use Rattle.std.specs.Prelude.{◌≡◌, ℕ, ◌+◌, List, Some, ◌∷◌}
use Rattle.lard_law_view.specs.Prelude.{BackRow, Config, ControlBlock, Entry, Has, IsReached, Machine, Rec, Stay, conn}
use Rattle.lard_law_connections.specs.Jobs.{NodeReads}
use Rattle.lard_law_connections.specs.StoresLaws.{OfEachNode}
use Rattle.lard_counts.specs.Stores.{jobs}
use Rattle.lard_handoff_back.specs.declared.row.BackConn.TheVariants as back
use Rattle.lard_rules.specs.declared.stay.Progress.TheVariants as progress

-- Each node reads, of each connection, only what a job of its disk is for.
abbrev pub ReadsAreJobs : Type 0
ReadsAreJobs = OfEachNode (λ config files J n s. NodeReads n s)

-- By the journal a job for request r of connection c, which node n serves, waits at the disk of that node.
abbrev pub HasQueued : List Rec → ℕ → ℕ → ℕ → Type 0
HasQueued J n c r = (path : List ℕ) × Has (n, c, r, path) (jobs J n)

-- Where a node has a connection, and reads the file of the first request of its batch, the journal tells a job for it.
abbrev pub ReadsAreQueued : Type 0
ReadsAreQueued = (config : Config) (files : List (List ℕ × List ℕ)) (m : Machine) → IsReached config files m
    → (c n : ℕ) (row : BackRow) (b : ControlBlock) (s : Stay) (e : Entry) (es : List Entry) → ((conn m c).part.nodes n).row ≡ Some row → row.stage ≡ back.Here b
    → ((conn m c).part.nodes n).stay ≡ Some s → s.batch ≡ e ∷ es → e.progress ≡ progress.Reading → HasQueued m.journal n c (s.served + 1)
