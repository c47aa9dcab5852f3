use Rattle.std.proofs.Common.{◌≡◌, ◌+◌, ◌++◌, length}
use Rattle.std.specs.Vec.Iter.{into_iter_items}
use Rattle.lard_rules.specs.Sent.{packets_of, sent_records}
use Rattle.lard_stepping.proofs.acting.send_messages.Given as goal

-- what was sent and what is left to send are all
abbrev pub invariant-loop-to : goal.invariant-loop-to
invariant-loop-to l = record {
  net : l.net ++ packets_of l.from (into_iter_items l.to-iterator) ≡ l.fn.net ++ packets_of l.from l.fn.messages;
  recs : l.recs ++ sent_records (length l.net + 1) l.from (into_iter_items l.to-iterator) ≡ l.fn.recs ++ sent_records (length l.fn.net + 1) l.from l.fn.messages;
}
