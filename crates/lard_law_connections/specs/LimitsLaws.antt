-- The reset law, over every run of the cluster.
use Rattle.std.specs.Prelude.{◌≡◌, ℕ, List, Ok}
use Rattle.lard_law_view.specs.Prelude.{Config, IsReached, Machine, OfEach, ResetsAtTheLimit, config_check}
use Rattle.lard_law_connections.specs.LimitsCounts.{CountsWhatWasServed}

-- Whatever has an endpoint of a connection, or its Offer, counts what was served on it.
abbrev pub ConnectionsAreCounted : Type 0
ConnectionsAreCounted = (config : Config) (files : List (List ℕ × List ℕ)) → config_check config ≡ Ok tt → OfEach config files (CountsWhatWasServed config.stream)

-- The responses on a connection have at most as many bytes as the stream limit, and none follows a reset.
abbrev pub ResetsAreLawful : Type 0
ResetsAreLawful = (config : Config) (files : List (List ℕ × List ℕ)) (m : Machine) → config_check config ≡ Ok tt → IsReached config files m → ResetsAtTheLimit config.stream m.journal
