-- How connections of the cluster ended, over every run.
use Rattle.std.specs.Prelude.{◌≡◌, ℕ, List, Ok}
use Rattle.lard_law_view.specs.Prelude.{Config, OfEach, Untouched, config_check, file_at}
use Rattle.lard_laws.specs.EndedEnds.{EndsAreTrue}

-- Of each connection that the schedule did not touch: what is told to be closed by both sides was an endpoint that they had closed.
abbrev pub ConnectionsWereClosed : Type 0
ConnectionsWereClosed = (config : Config) (files : List (List ℕ × List ℕ)) → config_check config ≡ Ok tt → OfEach config files (Untouched (EndsAreTrue (file_at files)))
