-- What a schedule gives to a run of the cluster, and that all records of the run are in range.
use Rattle.std.specs.Prelude.{◌≡◌, ℕ, ◌<◌, ◌^◌, List, All, Ok}
use Rattle.hex.specs.Hex.{IsBytes}
use Rattle.lard_law_view.specs.Prelude.{Config, Event, IsEventInRange, IsRecordInRange, IsUnspaced, Machine, Passes, config_check, machine_start}
use Rattle.lard_base.specs.declared.event.Event.TheVariants as event
use Rattle.lard_files.specs.Files as files

-- a file of bytes that may be kept, whose path is bytes without a space
abbrev pub IsRunFile : List ℕ × List ℕ → Type 0
IsRunFile (path, bytes) = files.IsFile (path, bytes) × IsUnspaced path × IsBytes path × IsBytes bytes

-- the path of a get is made of bytes, and a clock moves on by fewer than 2^32 milliseconds
abbrev pub IsWritten : Event → Type 0
IsWritten (event.Get c path) = IsBytes path
IsWritten (event.Clock ms) = ms < 2 ^ 32
IsWritten _ = Unit {0}

-- an event as a schedule gives it
abbrev pub IsScheduled : Event → Type 0
IsScheduled e = IsEventInRange e × IsWritten e

-- In every run of such files and events, with a configuration that may be used.
abbrev pub RecordsAreInRange : Type 0
RecordsAreInRange = (config : Config) (files : List (List ℕ × List ℕ)) (es : List Event) (m : Machine) → config_check config ≡ Ok tt → All IsRunFile files → All IsScheduled es
    → Passes (machine_start config files) es m → All IsRecordInRange m.journal
