-- The law of bytes, over every run of the cluster's machine.
use Rattle.std.specs.Prelude.{◌≡◌, ℕ, List, Ok}
use Rattle.lard_law_view.specs.Prelude.{AcceptsOnlyAnswers, Config, OfEach, TellsTheTruth, Untouched, config_check, file_at}
use Rattle.lard_law_connections.specs.BytesAgreement.{IsTruthful}
use Rattle.lard_law_connections.specs.BytesRecords.{ServesTheAnswers}
use Rattle.lard_law_connections.specs.PlacesLaws.{AlwaysUsable}

-- What its client, the place that has it, the journal and all its packets say of a connection that the schedule did not touch
-- agrees, wherever the connection is.
abbrev pub StatesAreTruthful : Type 0
StatesAreTruthful = (config : Config) (files : List (List ℕ × List ℕ)) → config_check config ≡ Ok tt → OfEach config files (Untouched (IsTruthful (file_at files)))

-- What the cluster sends to a client is true, whichever of its places sends it.
abbrev pub JournalsTellTheTruth : Type 0
JournalsTellTheTruth = AlwaysUsable (λ files m. TellsTheTruth (file_at files) m.journal)

-- Each response answers the next request, and a reset stands where the next one would be.
abbrev pub JournalsServeTheAnswers : Type 0
JournalsServeTheAnswers = AlwaysUsable (λ files m. ServesTheAnswers (file_at files) m.journal)

-- At every moment, what a client accepted is a prefix of the right responses to what it wrote.
abbrev pub ClientsAcceptAnswers : Type 0
ClientsAcceptAnswers = AlwaysUsable (λ files m. AcceptsOnlyAnswers (file_at files) m.journal)
