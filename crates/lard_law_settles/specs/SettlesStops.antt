-- Why a settle may stop before its end: a limit of the run was reached, and nothing else.
use Rattle.std.specs.Prelude.{◌≡◌, ℕ, List, Result, Ok, Err}
use Rattle.lard_law_view.specs.Prelude.{Config, Machine, StepFault, What, config_check}
use Rattle.lard_rules.specs.declared.fault.StepFault.TheVariants.{Limit}
use Rattle.lard_settling.specs.Settling.{Stop, all_inner, completions, deliveries, firings, settled, takes}
use Rattle.lard_settling.specs.Written.{IsWrittenOut}

-- the fault names a limit
abbrev pub IsLimit : StepFault → Type 0
IsLimit fault = (what : What) × (fault ≡ Limit what)

-- inner steps were all done, or stopped at a limit
abbrev pub StopsAtLimits : {A : Type 0} → Result A Stop → Type 0
StopsAtLimits (Ok done) = Unit {0}
StopsAtLimits (Err stop) = IsLimit stop.1

-- it is so of inner steps from each state of a run, also of those inside a settle
abbrev pub FromEach : (Machine → Result Machine Stop) → Type 0
FromEach steps = (config : Config) (files : List (List ℕ × List ℕ)) (m : Machine) → IsWrittenOut config files m → StopsAtLimits (steps m)

-- No client that has to take is unknown.
abbrev pub TakesStopAtLimits : Type 0
TakesStopAtLimits = FromEach (λ m. all_inner m (takes m))

-- No packet that is delivered is unknown, or lost.
abbrev pub DeliveriesStopAtLimits : Type 0
DeliveriesStopAtLimits = FromEach (λ m. all_inner m (deliveries m))

-- No node that completes its jobs is missing, and no job.
abbrev pub CompletionsStopAtLimits : Type 0
CompletionsStopAtLimits = (n : ℕ) → FromEach (λ m. all_inner m (completions m n))

-- No client is unknown of whose connection a timer fires, and no node is missing at which it does. The configuration is one that may
-- be used, so that each place has seats of its own.
abbrev pub FiringsStopAtLimits : Type 0
FiringsStopAtLimits = (config : Config) (files : List (List ℕ × List ℕ)) (m : Machine) → config_check config ≡ Ok tt → IsWrittenOut config files m → StopsAtLimits (all_inner m (firings m))

-- A settle that stops before its end stopped at a limit: whatever it takes, delivers, completes or fires is there.
abbrev pub SettlesStopAtLimits : Type 0
SettlesStopAtLimits = (config : Config) (files : List (List ℕ × List ℕ)) (m n : Machine) (rounds : ℕ) (fault : StepFault)
    → config_check config ≡ Ok tt → IsWrittenOut config files m → settled m rounds ≡ Err (n, fault) → IsLimit fault
