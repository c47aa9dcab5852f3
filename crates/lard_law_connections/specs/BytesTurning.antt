-- What a turn of a place notes while it has a connection, and what it makes of the connection's streams.
use Rattle.std.specs.Prelude.{◌≡◌, ◌⊎◌, ℕ, ◌+◌, ◌||◌, Bool, false, true, List, length, Option, Some, None}
use Rattle.std.specs.List.{list_any}
use Rattle.lard_law_view.specs.Prelude.{AreReplies, ControlBlock, Ending, FilesAt, GoesOn, Rec, SaysAnswers, Service, Stream, Tale, TellsOf, Turn, Verdict, bytes_served_in, is_reset_record, served_in, tale}
use Rattle.lard_law_connections.specs.BytesAgreement.{EndAgreesPending, HasReadPending, IsWide}
use Rattle.lard_law_connections.specs.BytesRecords.{AnswersNext, ResetsNext}
use Rattle.lard_law_view.specs.Carry.{TellsBy}
use Rattle.lard_history.proofs.Each.{Each}
use Rattle.lard_journal.specs.declared.rec.Rec.TheVariants as rec
use Rattle.lard_law_view.proofs.EndpointStreams.{IsBetween}

-- it tells nothing of bytes, or of this connection
abbrev pub IsNoteOf : ℕ → Rec → Type 0
IsNoteOf c (rec.Served place d r code size via) = d ≡ c
IsNoteOf c (rec.Reset place d total) = d ≡ c
IsNoteOf c (rec.Took place d epoch) = Unit {0}
IsNoteOf c (rec.Hit n path) = Unit {0}
IsNoteOf c (rec.Queued n m d r path) = Unit {0}
IsNoteOf c (rec.Read n m d r path) = Unit {0}
IsNoteOf c (rec.Waits d) = Unit {0}
IsNoteOf c (rec.Admitted d) = Unit {0}
IsNoteOf c (rec.Released d) = Unit {0}
IsNoteOf c (rec.AssignedFirst d r path n add remove) = Unit {0}
IsNoteOf c (rec.AssignedLater d r path n add size queue) = Unit {0}
IsNoteOf c (rec.BatchOver d) = Unit {0}
IsNoteOf c _ = ⊥

-- what a response or a reset says of the next request, whoever says it
abbrev pub MayAnswerNext : FilesAt → List Rec → Rec → Type 0
MayAnswerNext files past (rec.Served place c r code size via) = AnswersNext files past c r code size via
MayAnswerNext files past (rec.Reset place c total) = ResetsNext files past c total
MayAnswerNext files past _ = Unit {0}

-- it says so in each journal that tells this of connection c
abbrev pub AnswersAfter : FilesAt → ℕ → Tale → Rec → Type 0
AnswersAfter files c t r = (J : List Rec) → tale J c ≡ t → MayAnswerNext files J r

-- The notes of a turn count the responses that it queued and their bytes, and none is queued once the stream ended. Each answers
-- the next request, where what was said before the turn is told.
pub record CountsResponses (files : FilesAt) (c : ℕ) (w out : Stream) (vs vs_after : List Verdict) (said_after : List ℕ) (notes : List Rec) : Type 0 where
  pub each : Each (IsNoteOf c) notes
  pub served : length vs_after ≡ length vs + served_in notes
  pub size : length said_after ≡ length out.bytes + bytes_served_in notes
  pub unless_ended : (out.ended ≡ false) ⊎ (served_in notes ≡ 0)
  pub serve : (t : Tale) → TellsOf w.bytes out.bytes vs t → TellsBy (AnswersAfter files c) c t notes

-- what was read and is not answered, unless the connection is to be reset
abbrev pub IsReading : Stream → List Verdict → List Verdict → ControlBlock → List Rec → Option ℕ → Type 0
IsReading w vs pend b notes None = HasReadPending w b vs pend
IsReading w vs pend b notes (Some total) = list_any is_reset_record notes ≡ true

-- A turn so far: the cluster's stream went on by the answers to more verdicts.
pub record TurnServes (files : FilesAt) (c : ℕ) (w out : Stream) (vs : List Verdict) (s : Service) (pend : List Verdict) : Type 0 where
  pub out_now : Stream
  pub vs_now : List Verdict
  pub longer : GoesOn out out_now
  pub says : SaysAnswers files w out_now vs_now
  pub counted : s.count ≡ length vs_now
  pub between : IsBetween w out_now s.block
  pub wide : IsWide s.block
  pub noted : CountsResponses files c w out vs vs_now out_now.bytes s.notes
  pub reading : IsReading w vs_now pend s.block s.notes s.over

-- A turn that is over, by where the connection is at its end: what was said is true, and what waits is answered by nobody yet.
pub record EndTurned (files : FilesAt) (c : ℕ) (w out : Stream) (vs : List Verdict) (was_reset : Bool) (pend : List Verdict) (given : Ending × Turn) : Type 0 where
  pub out_after : Stream
  pub vs_after : List Verdict
  pub longer : GoesOn out out_after
  pub says : SaysAnswers files w out_after vs_after
  pub agrees : EndAgreesPending w out_after vs_after pend (was_reset || list_any is_reset_record given.1.notes) given.0
  pub noted : CountsResponses files c w out vs vs_after out_after.bytes given.1.notes
  pub sent : AreReplies c w out_after (was_reset || list_any is_reset_record given.1.notes) given.1.segments
