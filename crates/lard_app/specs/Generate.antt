-- What `generate` does: it replays the generated schedule of a seed and of so many clients, and prints what is counted of the journal.
use Rattle.std.specs.Prelude.{◌≡◌, ◌↔◌, ℕ, ◌+◌, List, [], ◌∷◌, ◌++◌, length, Option, Result, Ok, Err}
use Rattle.std.specs.Io.KnownBytes.{Appends, Keeps}
use Rattle.lard_law_view.specs.Prelude.{Config, Event, Machine, Rec, StepFault, WrotePrefix, file_at, machine_start, set_key, standard}
use Rattle.lard_base.specs.declared.config.Key.TheVariants.{Nodes}
use Rattle.lard_rules.specs.declared.fault.StepFault.TheVariants as fault
use Rattle.lard_generate.specs.Generated.{generated}
use Rattle.lard_generate.specs.declared.schedule.Schedule.{Schedule}
use Rattle.lard_generate_answers.specs.Counted.{CountsAllAnswers}
use Rattle.lard_journal.specs.declared.rec.Rec.TheVariants as rec
use Rattle.lard_settling.specs.Events.{GoesThrough, event_step}
use Rattle.lard_settling.specs.Settling.{Stop}
use Rattle.lard_summary.specs.Lines.{summary}
use Rattle.lard_app.specs.declared.status.Status.{Status}
use Rattle.lard_app.specs.declared.status.Status.TheVariants.{Done, Usage, Refused, ReadFault, WriteFault, NoMemory, Limit}
use Rattle.lard_app.specs.Causes.{ReachesLimit}
use Rattle.lard_app.specs.Happened.{Happened}
use Rattle.lard_app.specs.Replay.{ended_by}

-- ---- the run

-- Events one after another, of which the first is on this line of the schedule: the machine that they lead to, and how that ends. A
-- settle that is ended inside has come as far as it came.
abbrev pub played : ℕ → Machine → List Event → Machine × Status
played line m [] = (m, Done)
played line m (e ∷ es) = elim (event_step m e) [ Err stop ↦ (stop.0, ended_by line stop.1) | Ok n ↦ played (line + 1) n es ]

-- the line of the first event, where the schedule is written: behind `lard 1`, `nodes 64`, 256 files, and `go`
abbrev pub first_line : ℕ
first_line = 260

-- 64 nodes, and the standard numbers
abbrev pub large : Config
large = set_key standard Nodes 64

abbrev pub run_begins : Schedule → Machine
run_begins schedule = machine_start large schedule.files

-- the generated run of a seed and of so many clients: the machine in the end, and how it ends
unfoldable pub run_of : ℕ → ℕ → Machine × Status
run_of seed clients = let schedule = generated seed clients in played first_line (run_begins schedule) schedule.events

-- ---- why it ends

-- An event on this line ends it: a limit was reached before it, or before a step inside it where it is a settle. None is refused.
abbrev pub EndsEvent : Machine → ℕ → Event → Status → Type 0
EndsEvent m line e (Limit number w) = (number ≡ line) × ReachesLimit m e w
EndsEvent m line e _ = ⊥

-- nothing is left, or the next event ends it
abbrev pub EndsLeft : Machine → ℕ → List Event → Status → Type 0
EndsLeft m line [] status = status ≡ Done
EndsLeft m line (e ∷ es) status = EndsEvent m line e status

-- Some events are done, and all that is left ends the run.
pub record EndsPlay (m : Machine) (line : ℕ) (events : List Event) (status : Status) : Type 0 where
  pub before : List Event
  pub rest : List Event
  pub are : events ≡ before ++ rest
  pub state : Machine
  pub goes : GoesThrough m before state
  pub ends : EndsLeft state (line + length before) rest status

-- ---- what is printed

-- The text is printed where the run is done, and nothing where a limit or want of memory ended it. A fault of writing leaves a front of
-- it.
abbrev pub Prints : Status → Status → List ℕ → Option (List ℕ) → Option (List ℕ) → Type 0
Prints given Done text old new = (given ≡ Done) × Appends old new text
Prints given WriteFault text old new = (given ≡ Done) × WrotePrefix old new text
Prints given NoMemory text old new = Keeps old new
Prints given (Limit line what) text old new = (given ≡ Limit line what) × Keeps old new
Prints given (Refused line why) text old new = ⊥
Prints given Usage text old new = ⊥
Prints given ReadFault text old new = ⊥

-- ---- how its settle ends

-- the last record tells that a settle ended with nothing left to do
abbrev pub EndsSettled : List Rec → Type 0
EndsSettled J = (before : List Rec) × (done : ℕ) × (J ≡ before ++ rec.Settled done ∷ [])

-- ---- the whole

-- All that a generated run says: which events happened, its journal with the laws, what was printed, and why it ended.
pub record Generated (seed clients : ℕ) (status : Status) (old new : Option (List ℕ)) : Type 0 where
  -- the events that happened are a front of those of the schedule, and all of them where the run is done
  pub events : List Event
  pub rest : List Event
  pub are : (generated seed clients).events ≡ events ++ rest
  pub all : (run_of seed clients).1 ≡ Done → rest ≡ []
  -- the journal is that of the machine after these events, and obeys every law
  pub journal : List Rec
  pub is : (run_of seed clients).0.journal ≡ journal
  pub happened : Happened large (generated seed clients).files events journal
  -- where the run is done, the settle of the schedule ended with nothing left to do
  pub settles : (run_of seed clients).1 ≡ Done → EndsSettled journal
  -- the four lines say what is counted of this journal: R requests and B bytes among others
  pub printed : Prints (run_of seed clients).1 status (summary seed clients journal) old new
  -- where the run is done, R is how many responses there are to all that its clients are to write, and B how many bytes these have
  pub answers : (run_of seed clients).1 ≡ Done → CountsAllAnswers (file_at (generated seed clients).files) (generated seed clients).events clients journal
  -- the run ends with a status exactly where an event, or that none is left, gives its cause
  pub causes : (other : Status) → ((run_of seed clients).1 ≡ other) ↔ EndsPlay (run_begins (generated seed clients)) first_line (generated seed clients).events other

-- ---- what calls do

-- a call did what comes of an event, as far as it came, unless memory ran out
abbrev pub Happens : Result Machine Stop → Machine → Result (Unit {0}) StepFault → Type 0
Happens given n (Ok _) = given ≡ Ok n
Happens given n (Err fault.NoMemory) = Unit {0}
Happens given n (Err f) = given ≡ Err (n, f)

-- a call did all of some events, as far as they came, unless memory ran out
abbrev pub Plays : Machine × Status → Machine → Result (Unit {0}) Status → Type 0
Plays given n (Ok _) = given ≡ (n, Done)
Plays given n (Err NoMemory) = Unit {0}
Plays given n (Err (Limit line what)) = given ≡ (n, Limit line what)
Plays given n (Err (Refused line why)) = given ≡ (n, Refused line why)
Plays given n (Err _) = ⊥

-- a call gave what was made of the machine in the end, where the run is done; else how the run ended
abbrev pub GivesRun : {X : Type 0} → Machine × Status → (Machine → X) → Result X Status → Type 0
GivesRun given part (Ok x) = (given.1 ≡ Done) × (x ≡ part given.0)
GivesRun given part (Err NoMemory) = Unit {0}
GivesRun given part (Err (Limit line what)) = given.1 ≡ Limit line what
GivesRun given part (Err (Refused line why)) = given.1 ≡ Refused line why
GivesRun given part (Err _) = ⊥
