-- That enough rounds settle, in words of the journal: where a settle may leave something.
use Rattle.std.specs.Prelude.{◌≡◌, ◌<◌, ◌≤◌, ℕ, All, true, List, Ok}
use Rattle.lard_law_view.specs.Prelude.{Config, Event, FilesAt, Machine, Rec, config_check, file_at, machine_start}
use Rattle.lard_bound.specs.Bound.{IsOrdinary, settling_bound}
use Rattle.lard_laws.specs.Records.{IsRunFile, IsScheduled}
use Rattle.lard_journal.specs.declared.rec.Rec.TheVariants as rec
use Rattle.lard_settling.specs.declared.settled.Settled.{Settled}
use Rattle.lard_settling.specs.declared.settled.Settled.TheVariants.{Quiet}
use Rattle.lard_settling.specs.Events.{GoesThrough}
use Rattle.lard_settling.specs.Settling.{is_quiet, settled}

-- Of a settle of so many rounds, and what it answered: in each state that events lead to, settles among them, as lines can give the events
-- and the files, nothing is left where the journal is ordinary and the rounds are as many as its bound.
abbrev pub EndsWithEnough : Machine → ℕ → Settled → Type 0
EndsWithEnough m rounds s = (config : Config) (files : List (List ℕ × List ℕ)) → config_check config ≡ Ok tt → All IsRunFile files → (es : List Event) → All IsScheduled es → GoesThrough (machine_start config files) es m → IsOrdinary m.journal
    → settling_bound (file_at files) m.journal ≤ rounds → (done : ℕ) × (s ≡ Quiet done)

-- Of a state in which a settle has ended: where it was begun with as many rounds as the bound of its journal, in a state with an ordinary
-- journal to which events led, as lines can give these and the files, settles among them, then no job waits, and no timer runs but those
-- that are stalled.
abbrev pub RestsWithEnough : Machine → Type 0
RestsWithEnough n = All IsRunFile n.files → (es : List Event) → All IsScheduled es → (m : Machine) → GoesThrough (machine_start n.config n.files) es m → IsOrdinary m.journal → (rounds : ℕ) → settling_bound (file_at n.files) m.journal ≤ rounds
    → (s : Settled) → settled m rounds ≡ Ok (n, s) → is_quiet n ≡ true

-- A settle leaves something only where that is not so, or where it did fewer rounds than the bound of the journal.
abbrev pub MayLeaveUnsettled : FilesAt → List Rec → Rec → Type 0
MayLeaveUnsettled files past (rec.Unsettled done left) = IsOrdinary past → done < settling_bound files past
MayLeaveUnsettled files past _ = Unit {0}
