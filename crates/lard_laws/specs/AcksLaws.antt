-- What was acknowledged was taken, over every run of the cluster.
use Rattle.std.specs.Prelude.{◌≡◌, ℕ, List, Ok}
use Rattle.lard_law_view.specs.Prelude.{Config, OfEach, Untouched, config_check}
use Rattle.lard_laws.specs.Acks.{AcksWhatWasTaken}

-- Of each connection that the schedule did not touch nothing is acknowledged that was not taken, by either side, wherever it is.
abbrev pub ConnectionsAckWhatWasTaken : Type 0
ConnectionsAckWhatWasTaken = (config : Config) (files : List (List ℕ × List ℕ)) → config_check config ≡ Ok tt → OfEach config files (Untouched AcksWhatWasTaken)
