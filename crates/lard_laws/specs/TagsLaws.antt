-- What Tags name, over every run of the cluster.
use Rattle.std.specs.Prelude.{◌≡◌, ℕ, List, Ok}
use Rattle.lard_law_view.specs.Prelude.{Config, IsNode, OfEach, Untouched, config_check, file_at}
use Rattle.lard_laws.specs.Tags.{NamesNodes}

-- Of each connection that the schedule did not touch, in every state.
abbrev pub ConnectionsNameNodes : Type 0
ConnectionsNameNodes = (config : Config) (files : List (List ℕ × List ℕ)) → config_check config ≡ Ok tt → OfEach config files (Untouched (NamesNodes (IsNode config.nodes) (file_at files)))
