-- How a settle leaves each connection where it ends with nothing left to do, in words of the journal.
use Rattle.std.specs.Prelude.{◌≡◌, ◌⊎◌, ℕ, true, false, List, IsSome}
use Rattle.lard_law_view.specs.Prelude.{Config, FilesAt, IsComplete, Place, Rec, TimerKind, has_aborted, is_running, is_touched, numbers_of, was_reset}
use Rattle.lard_law_connections.specs.Line.{waiting_line}
use Rattle.lard_laws.specs.Quiet.{HasNoJob, IsInLine}
use Rattle.lard_journal.specs.declared.rec.Rec.TheVariants as rec
use Rattle.lard_law_settles.specs.RoundsToDo.{is_stalled_at}

-- Connection c is quiet but for timers that are stalled, since it is in the line, and no job waits for it. So it is complete, or in the
-- line at a full room, unless its client aborted it, the stream limit reset it, or the schedule touched it.
pub record IsDoneWith (config : Config) (files : FilesAt) (J : List Rec) (c : ℕ) : Type 0 where
  pub quiet : (p : Place) (kind : TimerKind) → is_running J p c kind ≡ true → is_stalled_at p (waiting_line J) c ≡ true
  pub jobs : HasNoJob J c
  pub ends : is_touched J c ≡ false → has_aborted J c ≡ false → was_reset J c ≡ false → IsComplete files J c ⊎ IsInLine config J c

-- Where a settle tells that nothing is left, each connection that opened is done with.
abbrev pub MaySettle : Config → FilesAt → List Rec → Rec → Type 0
MaySettle config files past (rec.Settled done) = (c : ℕ) → IsSome (numbers_of past c) → IsDoneWith config files past c
MaySettle config files past _ = Unit {0}
