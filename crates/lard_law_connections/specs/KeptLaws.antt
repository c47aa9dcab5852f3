-- What is kept of connections, over every run of the cluster.
use Rattle.std.specs.Prelude.{ℕ, List}
use Rattle.lard_law_view.specs.Prelude.{Config, OfEach, file_at}
use Rattle.lard_law_connections.specs.Kept.{IsKeptByStage}

-- any node
abbrev pub AnyNode : ℕ → Type 0
AnyNode n = Unit {0}

-- Of each connection, in every state: what its places keep is what its stage awaits.
abbrev pub ConnectionsAreKept : Type 0
ConnectionsAreKept = (config : Config) (files : List (List ℕ × List ℕ)) → OfEach config files (IsKeptByStage AnyNode (file_at files))
