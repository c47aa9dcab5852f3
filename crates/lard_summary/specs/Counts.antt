-- What is counted of a journal.
use Rattle.std.specs.Prelude.{ℕ, ◌+◌, List, length}
use Rattle.std.specs.List.{fold}
use Rattle.lard_history.specs.Journal.{sent_count, sent_step}
use Rattle.lard_journal.specs.declared.rec.Rec.{Rec}
use Rattle.lard_journal.specs.declared.rec.Rec.TheVariants as rec
use Rattle.lard_summary.specs.declared.counts.Counts.{Counts}

abbrev pub request_step : ℕ → Rec → ℕ
request_step n (rec.Served place c r code size via) = n + 1
request_step n _ = n

-- how many requests were answered: the responses that were queued
abbrev pub requests_answered : List Rec → ℕ
requests_answered J = fold request_step 0 J

abbrev pub accepted_bytes_step : ℕ → Rec → ℕ
accepted_bytes_step n (rec.Accepted c bytes) = n + length bytes
accepted_bytes_step n _ = n

-- how many bytes the clients accepted
abbrev pub accepted_bytes : List Rec → ℕ
accepted_bytes J = fold accepted_bytes_step 0 J

-- both, with how many packets were sent, and how many records there are
abbrev pub counts_of : List Rec → Counts
counts_of J = record { requests = requests_answered J; accepted = accepted_bytes J; packets = sent_count J; records = length J }

-- the same with one record more
abbrev pub summary_counted : Counts → Rec → Counts
summary_counted c r = record { requests = request_step c.requests r; accepted = accepted_bytes_step c.accepted r; packets = sent_step c.packets r; records = c.records + 1 }
