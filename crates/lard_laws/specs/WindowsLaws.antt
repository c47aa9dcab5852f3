-- How far windows reach, over every run of the cluster.
use Rattle.std.specs.Prelude.{◌≡◌, ℕ, List, Ok}
use Rattle.lard_law_view.specs.Prelude.{Config, OfEach, Untouched, config_check}
use Rattle.lard_laws.specs.WindowsEarly.{StaysEarly}
use Rattle.lard_laws.specs.WindowsRefusals.{RefusesSegments}
use Rattle.lard_laws.specs.Windows.{IsReaching}
use Rattle.lard_laws.specs.WindowsWords.{ForwardsWere, HasFittingWords, HasStarted}

-- Of each connection that the schedule did not touch, in every state.
abbrev pub WindowsReach : Type 0
WindowsReach = (config : Config) (files : List (List ℕ × List ℕ)) → config_check config ≡ Ok tt → OfEach config files (Untouched IsReaching)

-- And the segments of its client fit it.
abbrev pub WordsFit : Type 0
WordsFit = (config : Config) (files : List (List ℕ × List ℕ)) → config_check config ≡ Ok tt → OfEach config files (Untouched HasFittingWords)

-- Of each connection: what the front end forwards was sent by its client.
abbrev pub ForwardsComeFromClients : Type 0
ForwardsComeFromClients = (config : Config) (files : List (List ℕ × List ℕ)) → OfEach config files ForwardsWere

-- Of each connection that the schedule did not touch: a reset to its client without ACK refuses a segment of the client's.
abbrev pub RefusalsAnswer : Type 0
RefusalsAnswer = (config : Config) (files : List (List ℕ × List ℕ)) → config_check config ≡ Ok tt → OfEach config files (Untouched RefusesSegments)

-- Of each connection that the schedule did not touch: its client has a window, and sends its SYN alone until it is established.
abbrev pub ClientsStart : Type 0
ClientsStart = (config : Config) (files : List (List ℕ × List ℕ)) → config_check config ≡ Ok tt → OfEach config files (Untouched HasStarted)

-- Of each connection that the schedule did not touch: where its client is open and not established, no more than its SYN was taken.
abbrev pub OpenClientsSentTheirSyn : Type 0
OpenClientsSentTheirSyn = (config : Config) (files : List (List ℕ × List ℕ)) → config_check config ≡ Ok tt → OfEach config files (Untouched StaysEarly)
