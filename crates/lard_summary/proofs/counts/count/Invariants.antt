use Rattle.std.proofs.Common.{◌≡◌, ◌≤◌, ◌*◌, ◌^◌, drop}
use Rattle.std.specs.List.{fold}
use Rattle.lard_history.specs.Journal.{sent_count, sent_step}
use Rattle.lard_summary.specs.Counts.{accepted_bytes, accepted_bytes_step, request_step, requests_answered}
use Rattle.lard_summary.proofs.counts.count.Given as goal

-- what was counted, with what is counted of the rest, is what is counted of all
abbrev pub invariant-loop-rec : goal.invariant-loop-rec
invariant-loop-rec l = record {
  requests : fold request_step l.counts.requests (drop l.rec-index l.recs) ≡ requests_answered l.recs;
  accepted : fold accepted_bytes_step l.counts.accepted (drop l.rec-index l.recs) ≡ accepted_bytes l.recs;
  packets : fold sent_step l.counts.packets (drop l.rec-index l.recs) ≡ sent_count l.recs;
  records : l.counts.records ≡ l.rec-index;
  few_requests : l.counts.requests ≤ l.counts.records;
  few_packets : l.counts.packets ≤ l.counts.records;
  few_accepted : l.counts.accepted ≤ l.counts.records * 2 ^ 64;
}
