-- The law of places, over every run of the cluster.
use Rattle.std.specs.Prelude.{◌≡◌, ℕ, List, Ok}
use Rattle.lard_law_view.specs.Prelude.{Config, IsOwnership, IsReached, IsSoleSender, Machine, OfEach, config_check}
use Rattle.lard_law_connections.specs.Places.{HasEarlyEpoch, SitsAt}

-- it is so in every state that events lead to, from a configuration that may be used
abbrev pub AlwaysUsable : (List (List ℕ × List ℕ) → Machine → Type 0) → Type 0
AlwaysUsable P = (config : Config) (files : List (List ℕ × List ℕ)) (m : Machine) → config_check config ≡ Ok tt → IsReached config files m → P files m

-- Each connection is where its tale says, in an early epoch: at most one place has its sending side.
abbrev pub EachConnectionSits : Type 0
EachConnectionSits = (config : Config) (files : List (List ℕ × List ℕ)) → config_check config ≡ Ok tt → OfEach config files (λ x. SitsAt x × HasEarlyEpoch x)

-- The epochs in which a connection is taken rise, and a place gives up what it owns, in its epoch.
abbrev pub OwnersAreLawful : Type 0
OwnersAreLawful = AlwaysUsable (λ files m. IsOwnership m.journal)

-- A connection is taken where nobody owns it, and only its owner sends to its client, across every move.
abbrev pub SendersAreLawful : Type 0
SendersAreLawful = AlwaysUsable (λ files m. IsSoleSender m.journal)
