-- What is left of a connection of which no timer runs: it is complete, or waits to be admitted, or awaits a disk.
use Rattle.std.specs.Prelude.{◌≡◌, ◌⊎◌, ℕ, false, List, ◌∷◌, Some, Ok}
use Rattle.lard_law_view.specs.Prelude.{BackRow, Config, Conn, ControlBlock, Entry, FrontRow, IsComplete, IsQuiet, IsReached, Machine, Station, Stay, config_check, conn, file_at, has_aborted, is_touched, was_reset}
use Rattle.lard_handoff_back.specs.declared.row.BackConn.TheVariants as back
use Rattle.lard_handoff_front.specs.declared.row.FrontConn.TheVariants as stage
use Rattle.lard_rules.specs.declared.stay.Progress.TheVariants as progress

-- it waits at the front end to be admitted to a node
abbrev pub IsWaiting : Conn → Type 0
IsWaiting x = (row : FrontRow) × (b : ControlBlock) × (x.part.front.row ≡ Some row) × (row.stage ≡ stage.Waiting b)

-- a node has it, and the content of its next request is to be read from that node's disk
abbrev pub AwaitsADisk : Conn → Type 0
AwaitsADisk x = (n : ℕ) × (row : BackRow) × (b : ControlBlock) × (s : Stay) × (e : Entry) × (es : List Entry)
    × ((x.part.nodes n).row ≡ Some row) × (row.stage ≡ back.Here b) × ((x.part.nodes n).stay ≡ Some s) × (s.batch ≡ e ∷ es) × (e.progress ≡ progress.Reading)

-- Of a connection that opened, and that its client did not abort, the stream limit did not reset and the schedule did not touch: where
-- none of its timers runs, it is complete, or waits, or awaits a disk.
abbrev pub QuietIsCompleteOrElse : Type 0
QuietIsCompleteOrElse = (config : Config) (files : List (List ℕ × List ℕ)) (m : Machine) → config_check config ≡ Ok tt → IsReached config files m
    → (c : ℕ) (s : Station) → (conn m c).part.station ≡ Some s → is_touched m.journal c ≡ false → has_aborted m.journal c ≡ false → was_reset m.journal c ≡ false → IsQuiet m.journal c
    → IsComplete (file_at files) m.journal c ⊎ (IsWaiting (conn m c) ⊎ AwaitsADisk (conn m c))
