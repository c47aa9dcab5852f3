-- Why reading stops, over every run of the cluster.
use Rattle.std.specs.Prelude.{ℕ, List}
use Rattle.lard_law_view.specs.Prelude.{Config, OfEach, file_at}
use Rattle.lard_law_connections.specs.Stops.{ReadingStops}

-- Of each connection, in every state: the place that has it reads no further for a reason.
abbrev pub ConnectionsStop : Type 0
ConnectionsStop = (config : Config) (files : List (List ℕ × List ℕ)) → OfEach config files (ReadingStops (file_at files))
