-- What the folds over all records say of a journal with more records.
use Rattle.std.proofs.Common.{◌≡◌, ℕ, List, ◌++◌, None, false}
use Rattle.std.proofs.lemmas.List.Sums.{fold-append}
use Rattle.std.specs.List.{fold}
use Rattle.lard_history.specs.Journal.{answered_bytes, answered_step, bytes_step, last_event_step, goal_of, goal_step, is_lost, last_event, lost_step, packet_bytes, sent_count, sent_step}
use Rattle.lard_journal.specs.declared.rec.Rec.{Rec}

module _ (J rs : List Rec) where
  pub sent_count-append : sent_count (J ++ rs) ≡ fold sent_step (sent_count J) rs
  sent_count-append = fold-append sent_step 0 J rs

  pub packet_bytes-append : packet_bytes (J ++ rs) ≡ fold bytes_step (packet_bytes J) rs
  packet_bytes-append = fold-append bytes_step 0 J rs

  pub answered_bytes-append : answered_bytes (J ++ rs) ≡ fold answered_step (answered_bytes J) rs
  answered_bytes-append = fold-append answered_step 0 J rs

  pub goal_of-append : (k : ℕ) → goal_of (J ++ rs) k ≡ fold (goal_step k) (goal_of J k) rs
  goal_of-append k = fold-append (goal_step k) None J rs

  pub is_lost-append : (k : ℕ) → is_lost (J ++ rs) k ≡ fold (lost_step k) (is_lost J k) rs
  is_lost-append k = fold-append (lost_step k) false J rs

  pub last_event-append : last_event (J ++ rs) ≡ fold last_event_step (last_event J) rs
  last_event-append = fold-append last_event_step None J rs
