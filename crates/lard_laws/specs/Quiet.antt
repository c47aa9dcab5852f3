-- When a connection of the cluster is quiet, and that it is complete then or in the line, in words of the journal.
use Rattle.std.specs.Prelude.{◌≡◌, ◌⊎◌, ℕ, Bool, false, nat_eq, List, IsSome, Ok}
use Rattle.std.specs.List.{list_any}
use Rattle.lard_law_view.specs.Prelude.{AtEachEnd, Config, FilesAt, Has, IsComplete, IsQuiet, IsReached, Machine, Rec, config_check, file_at, has_aborted, is_touched, numbers_of, room_of, was_reset}
use Rattle.lard_law_connections.specs.Line.{waiting_line}
use Rattle.lard_counts.specs.Ledger.{ledger_admitted, ledger}
use Rattle.lard_counts.specs.Stores.{Waiting, jobs}

-- a job is for connection c
abbrev pub reads_for : ℕ → Waiting → Bool
reads_for c job = nat_eq job.1 c

-- no job for connection c waits at the disk of any node
abbrev pub HasNoJob : List Rec → ℕ → Type 0
HasNoJob J c = (n : ℕ) → list_any (reads_for c) (jobs J n) ≡ false

-- connection c is in the line, and as many are admitted as there is room for
abbrev pub IsInLine : Config → List Rec → ℕ → Type 0
IsInLine config J c = Has c (waiting_line J) × (ledger_admitted (ledger config J) ≡ room_of config)

-- A connection that opened, of which no timer runs anywhere and for which no job waits, is complete or in the line, unless its
-- client aborted it, the stream limit reset it, or the schedule touched it.
abbrev pub QuietIsCompleteOrInLine : Config → FilesAt → List Rec → Type 0
QuietIsCompleteOrInLine config files J = (c : ℕ) → IsSome (numbers_of J c) → is_touched J c ≡ false → has_aborted J c ≡ false → was_reset J c ≡ false
    → IsQuiet J c → HasNoJob J c → IsComplete files J c ⊎ IsInLine config J c

-- So it is at the end of each step.
abbrev pub CompletesWhenQuiet : Config → FilesAt → List Rec → Type 0
CompletesWhenQuiet config files J = AtEachEnd (QuietIsCompleteOrInLine config files) J

-- In every run, with a configuration that may be used.
abbrev pub JournalsComplete : Type 0
JournalsComplete = (config : Config) (files : List (List ℕ × List ℕ)) (m : Machine) → config_check config ≡ Ok tt → IsReached config files m → CompletesWhenQuiet config (file_at files) m.journal
