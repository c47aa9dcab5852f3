-- A record that a line can stand for is read from the words of its line.
use Rattle.std.proofs.Common.{◌≡◌, ℕ, ◌-◌, ◌<◌, ◌^◌, List, [], ◌∷◌, Option, Some, refl, ap, arith}
use Rattle.std.specs.Prelude.{decimal, codes}
use Rattle.hex.specs.Hex.{encode_lower}
use Rattle.lard_base.specs.declared.event.Event.{Event}
use Rattle.lard_base.specs.declared.place.Place.{Place}
use Rattle.lard_base.specs.declared.place.Via.{Via}
use Rattle.lard_base.specs.Spelling.{event_words, place_word}
use Rattle.lard_journal.specs.declared.rec.Rec.{Rec}
use Rattle.lard_journal.specs.declared.rec.Rec.TheVariants as rec
use Rattle.lard_journal.specs.Report.{choice_word, node_word, rec_words, via_word}
use Rattle.lard_schedule.specs.Words.{◌>>=◌}
use Rattle.lard_schedule.proofs.Found.{number_then_read, count_then_read, client_alone_read, number_alone_read}
use Rattle.lard_schedule.proofs.Readings.{event_again}
use Rattle.lard_report.specs.Readable.{IsReadable}
use Rattle.lard_report.specs.Records.{report_assigned, report_clock, report_closed, report_hit, loosely_of, report_numbered, report_opened, report_sent, report_served}
use Rattle.lard_report.proofs.Pieces.{choice_alone_read, choice_then_read, client_and_bytes_read, job_read, node_then_read, packet_read, place_client_number_read, place_client_timer_read, place_then_read, request_path_then_read, response_read, two_numbers_read}

numbered_read : (i : ℕ) (event : Event) → IsReadable (rec.Event i event) → report_numbered (decimal i ∷ event_words event) ≡ Some (rec.Event i event)
unfolding report_numbered
numbered_read i event h = rw (number_then_read (2 ^ 64 - 1) i (event_words event) (omega arith) (omega (arith, h.0)), event_again event h.1.0 h.1.1) refl

opened_read : (c isn iss wnd mss : ℕ) → IsReadable (rec.Opened c isn iss wnd mss)
    → report_opened (decimal c ∷ decimal isn ∷ decimal iss ∷ decimal wnd ∷ decimal mss ∷ []) ≡ Some (rec.Opened c isn iss wnd mss)
unfolding report_opened
opened_read c isn iss wnd mss h =
    rw (
      count_then_read 16384 c (decimal isn ∷ decimal iss ∷ decimal wnd ∷ decimal mss ∷ []) (omega arith) h.0,
      number_then_read (2 ^ 32 - 1) isn (decimal iss ∷ decimal wnd ∷ decimal mss ∷ []) (omega arith) (omega (arith, h.1)),
      number_then_read (2 ^ 32 - 1) iss (decimal wnd ∷ decimal mss ∷ []) (omega arith) (omega (arith, h.2)),
      number_then_read (2 ^ 32 - 1) wnd (decimal mss ∷ []) (omega arith) (omega (arith, h.3)),
      number_then_read (2 ^ 32 - 1) mss [] (omega arith) (omega (arith, h.4)),
    ) refl

sent_read : (k : ℕ) (from to : Place) (bytes : List ℕ) → IsReadable (rec.Sent k from to bytes)
    → report_sent (decimal k ∷ place_word from ∷ place_word to ∷ encode_lower bytes ∷ []) ≡ Some (rec.Sent k from to bytes)
unfolding report_sent
sent_read k from to bytes h =
    rw (
      number_then_read (2 ^ 32 - 1) k (place_word from ∷ place_word to ∷ encode_lower bytes ∷ []) (omega arith) (omega (arith, h.0)),
      packet_read from to bytes h.1 h.2 h.3,
    ) refl

first_read : (c r : ℕ) (path : List ℕ) (n : ℕ) (add remove : Option ℕ) → IsReadable (rec.AssignedFirst c r path n add remove)
    → report_assigned (decimal c ∷ decimal r ∷ codes "first" ∷ path ∷ decimal n ∷ choice_word add ∷ choice_word remove ∷ [])
    ≡ Some (rec.AssignedFirst c r path n add remove)
unfolding report_assigned
first_read c r path n add remove h =
    rw (
      count_then_read 16384 c (decimal r ∷ codes "first" ∷ path ∷ decimal n ∷ choice_word add ∷ choice_word remove ∷ []) (omega arith) h.0,
      number_then_read (2 ^ 32 - 1) r (codes "first" ∷ path ∷ decimal n ∷ choice_word add ∷ choice_word remove ∷ []) (omega arith) (omega (arith, h.1)),
      request_path_then_read path (decimal n ∷ choice_word add ∷ choice_word remove ∷ []) h.2,
      count_then_read 64 n (choice_word add ∷ choice_word remove ∷ []) (omega arith) h.3,
      choice_then_read add (choice_word remove ∷ []) h.4,
      choice_alone_read remove h.5,
    ) refl

later_read : (c r : ℕ) (path : List ℕ) (n : ℕ) (add : Option ℕ) (size queue : ℕ) → IsReadable (rec.AssignedLater c r path n add size queue)
    → report_assigned (decimal c ∷ decimal r ∷ codes "later" ∷ path ∷ decimal n ∷ choice_word add ∷ decimal size ∷ decimal queue ∷ [])
    ≡ Some (rec.AssignedLater c r path n add size queue)
unfolding report_assigned
later_read c r path n add size queue h =
    rw (
      count_then_read 16384 c (decimal r ∷ codes "later" ∷ path ∷ decimal n ∷ choice_word add ∷ decimal size ∷ decimal queue ∷ []) (omega arith) h.0,
      number_then_read (2 ^ 32 - 1) r (codes "later" ∷ path ∷ decimal n ∷ choice_word add ∷ decimal size ∷ decimal queue ∷ []) (omega arith) (omega (arith, h.1)),
      request_path_then_read path (decimal n ∷ choice_word add ∷ decimal size ∷ decimal queue ∷ []) h.2,
      count_then_read 64 n (choice_word add ∷ decimal size ∷ decimal queue ∷ []) (omega arith) h.3,
      choice_then_read add (decimal size ∷ decimal queue ∷ []) h.4,
      two_numbers_read (2 ^ 32 - 1) size queue (omega arith) h.5 (omega (arith, h.6)),
    ) refl

served_read : (place : Place) (c r code length : ℕ) (via : Via) → IsReadable (rec.Served place c r code length via)
    → report_served (place_word place ∷ decimal c ∷ decimal r ∷ decimal code ∷ decimal length ∷ via_word via ∷ []) ≡ Some (rec.Served place c r code length via)
unfolding report_served
served_read place c r code length via h =
    rw (
      place_then_read place (decimal c ∷ decimal r ∷ decimal code ∷ decimal length ∷ via_word via ∷ []) h.0,
      count_then_read 16384 c (decimal r ∷ decimal code ∷ decimal length ∷ via_word via ∷ []) (omega arith) h.1,
      number_then_read (2 ^ 32 - 1) r (decimal code ∷ decimal length ∷ via_word via ∷ []) (omega arith) (omega (arith, h.2)),
      response_read code length via h.3 h.4 h.5,
    ) refl

hit_read : (n : ℕ) (path : List ℕ) → IsReadable (rec.Hit n path) → report_hit (node_word n ∷ path ∷ []) ≡ Some (rec.Hit n path)
unfolding report_hit
hit_read n path h = rw (node_then_read n (path ∷ []) h.0, request_path_then_read path [] h.1) refl

closed_read : (n : ℕ) → IsReadable (rec.Closed n) → report_closed (node_word n ∷ []) ≡ Some (rec.Closed n)
unfolding report_closed
closed_read n h = rw (node_then_read n [] h) refl

clock_read : (time : ℕ) → time < 2 ^ 64 → report_clock (decimal time ∷ []) ≡ Some (rec.Clock (record { 0 = time }))
unfolding report_clock
clock_read time h = rw (number_then_read (2 ^ 64 - 1) time [] (omega arith) (omega (arith, h))) refl

pub loosely_read : (r : Rec) → IsReadable r → loosely_of (rec_words r) ≡ Some r
unfolding loosely_of
loosely_read (rec.Event i event) h = numbered_read i event h
loosely_read (rec.Inner event) h = ap (λ o. o >>= λ e. Some (rec.Inner e)) (event_again event h.0 h.1)
loosely_read (rec.Opened c isn iss wnd mss) h = opened_read c isn iss wnd mss h
loosely_read (rec.Wrote c bytes) h = ap (λ o. o >>= λ found. Some (rec.Wrote found.0 found.1)) (client_and_bytes_read c bytes h.0 h.1)
loosely_read (rec.Sent k from to bytes) h = sent_read k from to bytes h
loosely_read (rec.Got k) h = ap (λ o. o >>= λ n. Some (rec.Got n)) (number_alone_read k h)
loosely_read (rec.Lost k) h = ap (λ o. o >>= λ n. Some (rec.Lost n)) (number_alone_read k h)
loosely_read (rec.Accepted c bytes) h = ap (λ o. o >>= λ found. Some (rec.Accepted found.0 found.1)) (client_and_bytes_read c bytes h.0 h.1)
loosely_read (rec.Eof c) h = ap (λ o. o >>= λ d. Some (rec.Eof d)) (client_alone_read c h)
loosely_read (rec.Took place c epoch) h =
    ap (λ o. o >>= λ found. Some (rec.Took found.0 found.1 (record { 0 = found.2 })))
    (place_client_number_read (2 ^ 16 - 1) place c epoch.0 (omega arith) h.0 h.1 (omega (arith, h.2)))
loosely_read (rec.Gave place c epoch) h =
    ap (λ o. o >>= λ found. Some (rec.Gave found.0 found.1 (record { 0 = found.2 })))
    (place_client_number_read (2 ^ 16 - 1) place c epoch.0 (omega arith) h.0 h.1 (omega (arith, h.2)))
loosely_read (rec.Waits c) h = ap (λ o. o >>= λ d. Some (rec.Waits d)) (client_alone_read c h)
loosely_read (rec.Admitted c) h = ap (λ o. o >>= λ d. Some (rec.Admitted d)) (client_alone_read c h)
loosely_read (rec.Released c) h = ap (λ o. o >>= λ d. Some (rec.Released d)) (client_alone_read c h)
loosely_read (rec.AssignedFirst c r path n add remove) h = first_read c r path n add remove h
loosely_read (rec.AssignedLater c r path n add size queue) h = later_read c r path n add size queue h
loosely_read (rec.BatchOver c) h = ap (λ o. o >>= λ d. Some (rec.BatchOver d)) (client_alone_read c h)
loosely_read (rec.Served place c r code length via) h = served_read place c r code length via h
loosely_read (rec.Hit n path) h = hit_read n path h
loosely_read (rec.Queued n m c r path) h =
    ap (λ o. o >>= λ job. Some (rec.Queued job.n job.m job.c job.r job.path)) (job_read (record { n = n; m = m; c = c; r = r; path = path }) h)
loosely_read (rec.Read n m c r path) h =
    ap (λ o. o >>= λ job. Some (rec.Read job.n job.m job.c job.r job.path)) (job_read (record { n = n; m = m; c = c; r = r; path = path }) h)
loosely_read (rec.Closed n) h = closed_read n h
loosely_read (rec.Armed place c kind) h =
    ap (λ o. o >>= λ found. Some (rec.Armed found.0 found.1 found.2)) (place_client_timer_read place c kind h.0 h.1)
loosely_read (rec.Cleared place c kind) h =
    ap (λ o. o >>= λ found. Some (rec.Cleared found.0 found.1 found.2)) (place_client_timer_read place c kind h.0 h.1)
loosely_read (rec.Reset place c count) h =
    ap (λ o. o >>= λ found. Some (rec.Reset found.0 found.1 found.2))
    (place_client_number_read (2 ^ 32 - 1) place c count (omega arith) h.0 h.1 (omega (arith, h.2)))
loosely_read (rec.Aborted c) h = ap (λ o. o >>= λ d. Some (rec.Aborted d)) (client_alone_read c h)
loosely_read (rec.Injected c) h = ap (λ o. o >>= λ d. Some (rec.Injected d)) (client_alone_read c h)
loosely_read (rec.Clock time) h = clock_read time.0 h
loosely_read (rec.Settled rounds) h = ap (λ o. o >>= λ n. Some (rec.Settled n)) (number_alone_read rounds h)
loosely_read (rec.Unsettled rounds left) h =
    ap (λ o. o >>= λ found. Some (rec.Unsettled found.0 found.1)) (two_numbers_read (2 ^ 64 - 1) rounds left (omega arith) h.0 (omega (arith, h.1)))
