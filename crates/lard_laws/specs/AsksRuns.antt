-- The laws of Asks, over every run of the cluster.
use Rattle.std.specs.Prelude.{◌≡◌, ℕ, List, [], Ok}
use Rattle.lard_law_view.specs.Prelude.{Config, EachStep, IsReached, Machine, config_check, steps}
use Rattle.lard_laws.specs.AsksAnswers.{MustAnswer, MustEnd}
use Rattle.lard_laws.specs.AsksSent.{MustAsk}

-- Each step assigns what the Ask that comes in it lets it assign, and sends the Tags that are due.
abbrev pub AsksAreAnswered : Type 0
AsksAreAnswered = (config : Config) (files : List (List ℕ × List ℕ)) (m : Machine) → config_check config ≡ Ok tt → IsReached config files m → EachStep MustAnswer [] (steps m.journal)

-- And it ends the batch before where shares were open, with a configuration that may be used.
abbrev pub BatchesEndInSteps : Type 0
BatchesEndInSteps = (config : Config) (files : List (List ℕ × List ℕ)) (m : Machine) → config_check config ≡ Ok tt → IsReached config files m → EachStep (MustEnd config) [] (steps m.journal)

-- Each Ask that a node sends is the next of its connection and epoch, with the jobs that the journal counts, or the last one again.
abbrev pub AsksGoOnInSteps : Type 0
AsksGoOnInSteps = (config : Config) (files : List (List ℕ × List ℕ)) (m : Machine) → config_check config ≡ Ok tt → IsReached config files m → EachStep MustAsk [] (steps m.journal)
