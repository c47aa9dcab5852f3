-- What a line stands for: its words are read, and the record that they make is one whose line this is.
use Rattle.std.specs.Prelude.{ℕ, ◌-◌, ◌^◌, List, Option, Some, None, codes, bytes_eq, if◌then◌else◌}
use Rattle.lard_base.specs.Spelling.{sentence}
use Rattle.lard_journal.specs.declared.rec.Rec.{Rec}
use Rattle.lard_journal.specs.declared.rec.Rec.TheVariants as rec
use Rattle.lard_journal.specs.Report.{rec_words}
use Rattle.lard_schedule.specs.Words.{◌>>=◌, words_of, word_then, number_then, count_then, client_then, ended}
use Rattle.lard_schedule.specs.Events.{client_alone, event_of, number_alone}
use Rattle.lard_report.specs.declared.kinds.Kind.{Kind}
use Rattle.lard_report.specs.declared.kinds.Kind.TheVariants as kind
use Rattle.lard_report.specs.Kinds.{record_kind}
use Rattle.lard_report.specs.Parts.{choice_alone, choice_then, client_and_bytes, job_of, node_then, packet_words, place_client_number, place_client_timer, place_then, request_path_then, response_of, two_numbers}

-- ---- what comes after the first word

-- an event of the schedule, with its number
unfoldable pub report_numbered : List (List ℕ) → Option Rec
report_numbered words = do
  i ← number_then (2 ^ 64 - 1) words
  event ← event_of i.1
  Some (rec.Event i.0 event)

unfoldable pub report_opened : List (List ℕ) → Option Rec
report_opened words = do
  c ← client_then words
  isn ← number_then (2 ^ 32 - 1) c.1
  iss ← number_then (2 ^ 32 - 1) isn.1
  wnd ← number_then (2 ^ 32 - 1) iss.1
  mss ← number_then (2 ^ 32 - 1) wnd.1
  ended mss.1 (rec.Opened c.0 isn.0 iss.0 wnd.0 mss.0)

unfoldable pub report_sent : List (List ℕ) → Option Rec
report_sent words = do
  k ← number_then (2 ^ 32 - 1) words
  packet ← packet_words k.1
  Some (rec.Sent k.0 packet.0 packet.1 packet.2)

-- a first choice ends by the node that leaves the path's server set
abbrev pub first_choice_record : ℕ → ℕ → List ℕ → ℕ → Option ℕ → List (List ℕ) → Option Rec
first_choice_record c r path n add words = choice_alone words >>= λ remove. Some (rec.AssignedFirst c r path n add remove)

-- a later one by the size and the queue of its batch
abbrev pub later_choice_record : ℕ → ℕ → List ℕ → ℕ → Option ℕ → List (List ℕ) → Option Rec
later_choice_record c r path n add words = two_numbers (2 ^ 32 - 1) words >>= λ batch. Some (rec.AssignedLater c r path n add batch.0 batch.1)

-- which choice it is stands behind the number of the request
unfoldable pub report_assigned : List (List ℕ) → Option Rec
report_assigned words = do
  c ← client_then words
  r ← number_then (2 ^ 32 - 1) c.1
  which ← word_then r.1
  path ← request_path_then which.1
  n ← count_then 64 path.1
  add ← choice_then n.1
  if bytes_eq which.0 (codes "first") then first_choice_record c.0 r.0 path.0 n.0 add.0 add.1 else later_choice_record c.0 r.0 path.0 n.0 add.0 add.1

unfoldable pub report_served : List (List ℕ) → Option Rec
report_served words = do
  place ← place_then words
  c ← client_then place.1
  r ← number_then (2 ^ 32 - 1) c.1
  response ← response_of r.1
  Some (rec.Served place.0 c.0 r.0 response.0 response.1 response.2)

unfoldable pub report_hit : List (List ℕ) → Option Rec
report_hit words = do
  n ← node_then words
  path ← request_path_then n.1
  ended path.1 (rec.Hit n.0 path.0)

-- a node that was closed, written as a place
unfoldable pub report_closed : List (List ℕ) → Option Rec
report_closed words = do
  n ← node_then words
  ended n.1 (rec.Closed n.0)

unfoldable pub report_clock : List (List ℕ) → Option Rec
report_clock words = do
  time ← number_then (2 ^ 64 - 1) words
  ended time.1 (rec.Clock (record { 0 = time.0 }))

-- what else a client, a place, a job or a number makes
abbrev pub report_inner : List (List ℕ) → Option Rec
report_inner words = event_of words >>= λ event. Some (rec.Inner event)

abbrev pub report_wrote : List (List ℕ) → Option Rec
report_wrote words = client_and_bytes words >>= λ found. Some (rec.Wrote found.0 found.1)

abbrev pub report_accepted : List (List ℕ) → Option Rec
report_accepted words = client_and_bytes words >>= λ found. Some (rec.Accepted found.0 found.1)

abbrev pub report_took : List (List ℕ) → Option Rec
report_took words = place_client_number (2 ^ 16 - 1) words >>= λ found. Some (rec.Took found.0 found.1 (record { 0 = found.2 }))

abbrev pub report_gave : List (List ℕ) → Option Rec
report_gave words = place_client_number (2 ^ 16 - 1) words >>= λ found. Some (rec.Gave found.0 found.1 (record { 0 = found.2 }))

abbrev pub report_queued : List (List ℕ) → Option Rec
report_queued words = job_of words >>= λ job. Some (rec.Queued job.n job.m job.c job.r job.path)

abbrev pub report_read : List (List ℕ) → Option Rec
report_read words = job_of words >>= λ job. Some (rec.Read job.n job.m job.c job.r job.path)

abbrev pub report_armed : List (List ℕ) → Option Rec
report_armed words = place_client_timer words >>= λ found. Some (rec.Armed found.0 found.1 found.2)

abbrev pub report_cleared : List (List ℕ) → Option Rec
report_cleared words = place_client_timer words >>= λ found. Some (rec.Cleared found.0 found.1 found.2)

abbrev pub report_reset : List (List ℕ) → Option Rec
report_reset words = place_client_number (2 ^ 32 - 1) words >>= λ found. Some (rec.Reset found.0 found.1 found.2)

abbrev pub report_unsettled : List (List ℕ) → Option Rec
report_unsettled words = two_numbers (2 ^ 64 - 1) words >>= λ found. Some (rec.Unsettled found.0 found.1)

-- ---- a record

abbrev pub record_after : Kind → List (List ℕ) → Option Rec
record_after kind.Event words = report_numbered words
record_after kind.Inner words = report_inner words
record_after kind.Opened words = report_opened words
record_after kind.Wrote words = report_wrote words
record_after kind.Sent words = report_sent words
record_after kind.Got words = number_alone words >>= λ k. Some (rec.Got k)
record_after kind.Lost words = number_alone words >>= λ k. Some (rec.Lost k)
record_after kind.Accepted words = report_accepted words
record_after kind.Eof words = client_alone words >>= λ c. Some (rec.Eof c)
record_after kind.Took words = report_took words
record_after kind.Gave words = report_gave words
record_after kind.Waits words = client_alone words >>= λ c. Some (rec.Waits c)
record_after kind.Admitted words = client_alone words >>= λ c. Some (rec.Admitted c)
record_after kind.Released words = client_alone words >>= λ c. Some (rec.Released c)
record_after kind.Assigned words = report_assigned words
record_after kind.BatchOver words = client_alone words >>= λ c. Some (rec.BatchOver c)
record_after kind.Served words = report_served words
record_after kind.Hit words = report_hit words
record_after kind.Queued words = report_queued words
record_after kind.Read words = report_read words
record_after kind.Closed words = report_closed words
record_after kind.Armed words = report_armed words
record_after kind.Cleared words = report_cleared words
record_after kind.Reset words = report_reset words
record_after kind.Aborted words = client_alone words >>= λ c. Some (rec.Aborted c)
record_after kind.Injected words = client_alone words >>= λ c. Some (rec.Injected c)
record_after kind.Clock words = report_clock words
record_after kind.Settled words = number_alone words >>= λ rounds. Some (rec.Settled rounds)
record_after kind.Unsettled words = report_unsettled words

-- a record, from words that may be spelled otherwise too
unfoldable pub loosely_of : List (List ℕ) → Option Rec
loosely_of words = do
  first ← word_then words
  kind ← record_kind first.0
  record_after kind first.1

-- what a line stands for, given without its line feed: the record whose line it is
unfoldable pub record_of : List ℕ → Option Rec
record_of line = do
  r ← loosely_of (words_of line)
  if bytes_eq (sentence (rec_words r)) line then Some r else None
