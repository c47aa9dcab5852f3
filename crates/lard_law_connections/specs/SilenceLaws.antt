-- Nothing is left to be said, over every run of the cluster.
use Rattle.std.specs.Prelude.{ℕ, ◌≤◌, List}
use Rattle.lard_law_view.specs.Prelude.{Config, MAX_STREAM_BYTES, OfEach}
use Rattle.lard_law_connections.specs.Silence.{AllHaveSpoken}

-- Of each connection, in every state: its client and each place that has an endpoint of it have said all that they may.
abbrev pub ConnectionsHaveSpoken : Type 0
ConnectionsHaveSpoken = (config : Config) (files : List (List ℕ × List ℕ)) → config.stream ≤ MAX_STREAM_BYTES → OfEach config files AllHaveSpoken
