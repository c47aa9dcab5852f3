-- What is awaited was asked for, over every run of the cluster.
use Rattle.std.specs.Prelude.{ℕ, List}
use Rattle.lard_law_view.specs.Prelude.{Config, OfEach, file_at}
use Rattle.lard_law_connections.specs.Awaits.{AwaitsWhatItAsked}

-- Of each connection, in every state: each node that has it awaits what it asked for.
abbrev pub ConnectionsAwait : Type 0
ConnectionsAwait = (config : Config) (files : List (List ℕ × List ℕ)) → OfEach config files (AwaitsWhatItAsked (file_at files))
