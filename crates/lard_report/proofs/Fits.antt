-- What is read of a line is a record that a line can stand for.
use Rattle.std.proofs.Common.{◌≡◌, ℕ, ◌-◌, ◌≤◌, ◌<◌, ◌^◌, List, Bool, true, false, cond, Option, Some, subst, arith}
use Rattle.std.specs.Prelude.{codes, bytes_eq}
use Rattle.hex.proofs.HexLemmas.{decode_of-ok}
use Rattle.lard_base.specs.declared.event.Event.{Event}
use Rattle.lard_base.specs.declared.event.Event.TheVariants as event
use Rattle.lard_journal.specs.declared.rec.Rec.{Rec}
use Rattle.lard_journal.specs.declared.rec.Rec.TheVariants as rec
use Rattle.lard_schedule.specs.Words.{◌>>=◌, word_then, number_then, count_then, client_then}
use Rattle.lard_schedule.specs.Events.{client_alone, event_of, number_alone}
use Rattle.lard_schedule.specs.Laws.{HasBytes, Spells}
use Rattle.lard_schedule.proofs.Found.{bind_some, some_same, ended_some, number_then_spelled, count_then_spelled, client_alone_spelled, number_alone_spelled}
use Rattle.lard_schedule.proofs.Readings.{event_spelled}
use Rattle.lard_report.specs.declared.kinds.Kind.{Kind}
use Rattle.lard_report.specs.declared.kinds.Kind.TheVariants as kind
use Rattle.lard_report.specs.Kinds.{record_kind}
use Rattle.lard_report.specs.Parts.{choice_alone, choice_then, client_and_bytes, job_of, node_then, packet_words, place_client_number, place_client_timer, place_then, request_path_then, response_of, two_numbers}
use Rattle.lard_report.specs.Readable.{IsChoice, IsConn, IsEvent, IsReadable}
use Rattle.lard_report.specs.Records.{report_assigned, report_clock, report_closed, first_choice_record, report_hit, later_choice_record, loosely_of, report_numbered, report_opened, record_after, report_sent, report_served}
use Rattle.lard_report.proofs.Pieces.{choice_alone_fits, choice_then_fits, client_and_bytes_fit, job_fits, node_then_fits, packet_fits, place_client_number_fits, place_client_timer_fits, place_then_fits, request_path_then_fits, response_fits, two_numbers_fit}

-- ---- events

bytes_fit_event : (words : List (List ℕ)) (event : Event) → Spells words event → HasBytes event
bytes_fit_event words (event.Open c isn iss wnd mss) e = tt
bytes_fit_event words (event.Get c path) e = tt
bytes_fit_event words (event.Write c bytes) e = (decode_of-ok e.0 bytes e.2).3
bytes_fit_event words (event.Shut c) e = tt
bytes_fit_event words (event.Abort c) e = tt
bytes_fit_event words (event.Hold c) e = tt
bytes_fit_event words (event.Take c) e = tt
bytes_fit_event words (event.Deliver k) e = tt
bytes_fit_event words (event.Lose k) e = tt
bytes_fit_event words (event.Timer place c) e = tt
bytes_fit_event words (event.Disk n j) e = tt
bytes_fit_event words (event.Drain n) e = tt
bytes_fit_event words (event.Clock ms) e = tt
bytes_fit_event words (event.Settle rounds) e = tt
bytes_fit_event words (event.Inject c bytes) e = (decode_of-ok e.0 bytes e.2).3

event_fits : (words : List (List ℕ)) (event : Event) → event_of words ≡ Some event → IsEvent event
event_fits words event e = let spelled = event_spelled words event e in (spelled.1, bytes_fit_event words event spelled.0)

-- ---- kind by kind

-- a record that is made of what was found
made : {A : Type 0} (o : Option A) (make : A → Rec) (r : Rec) → (o >>= λ x. Some (make x)) ≡ Some r → ((x : A) → o ≡ Some x → IsReadable (make x)) → IsReadable r
made o make r e fits = let x = bind_some o _ r e in subst IsReadable (some_same (make x.0) r x.2) (fits x.0 x.1)

numbered_fits : (words : List (List ℕ)) (r : Rec) → report_numbered words ≡ Some r → IsReadable r
unfolding report_numbered
numbered_fits words r e =
    let i = bind_some (number_then (2 ^ 64 - 1) words) _ r e in
    let event = bind_some (event_of i.0.1) _ r i.2 in
    let small = number_then_spelled (2 ^ 64 - 1) words i.0 (omega arith) i.1 in
    subst IsReadable (some_same (rec.Event i.0.0 event.0) r event.2) (omega (arith, small.1), event_fits i.0.1 event.0 event.1)

opened_fits : (words : List (List ℕ)) (r : Rec) → report_opened words ≡ Some r → IsReadable r
unfolding report_opened
opened_fits words r e =
    let c = bind_some (client_then words) _ r e in
    let isn = bind_some (number_then (2 ^ 32 - 1) c.0.1) _ r c.2 in
    let iss = bind_some (number_then (2 ^ 32 - 1) isn.0.1) _ r isn.2 in
    let wnd = bind_some (number_then (2 ^ 32 - 1) iss.0.1) _ r iss.2 in
    let mss = bind_some (number_then (2 ^ 32 - 1) wnd.0.1) _ r wnd.2 in
    let end = ended_some mss.0.1 (rec.Opened c.0.0 isn.0.0 iss.0.0 wnd.0.0 mss.0.0) r mss.2 in
    let second = number_then_spelled (2 ^ 32 - 1) c.0.1 isn.0 (omega arith) isn.1 in
    let third = number_then_spelled (2 ^ 32 - 1) isn.0.1 iss.0 (omega arith) iss.1 in
    let fourth = number_then_spelled (2 ^ 32 - 1) iss.0.1 wnd.0 (omega arith) wnd.1 in
    let fifth = number_then_spelled (2 ^ 32 - 1) wnd.0.1 mss.0 (omega arith) mss.1 in
    subst IsReadable end.1
    ((count_then_spelled 16384 words c.0 c.1).1, omega (arith, second.1), omega (arith, third.1), omega (arith, fourth.1), omega (arith, fifth.1))

sent_fits : (words : List (List ℕ)) (r : Rec) → report_sent words ≡ Some r → IsReadable r
unfolding report_sent
sent_fits words r e =
    let k = bind_some (number_then (2 ^ 32 - 1) words) _ r e in
    let packet = bind_some (packet_words k.0.1) _ r k.2 in
    let small = number_then_spelled (2 ^ 32 - 1) words k.0 (omega arith) k.1 in
    let fits = packet_fits k.0.1 packet.0 packet.1 in
    subst IsReadable (some_same (rec.Sent k.0.0 packet.0.0 packet.0.1 packet.0.2) r packet.2) (omega (arith, small.1), fits.0, fits.1, fits.2)

assigned_fits : (words : List (List ℕ)) (r : Rec) → report_assigned words ≡ Some r → IsReadable r
unfolding report_assigned
assigned_fits words r e =
    let c = bind_some (client_then words) _ r e in
    let number = bind_some (number_then (2 ^ 32 - 1) c.0.1) _ r c.2 in
    let which = bind_some (word_then number.0.1) _ r number.2 in
    let path = bind_some (request_path_then which.0.1) _ r which.2 in
    let n = bind_some (count_then 64 path.0.1) _ r path.2 in
    let add = bind_some (choice_then n.0.1) _ r n.2 in
    let client = count_then_spelled 16384 words c.0 c.1 in
    let small = number_then_spelled (2 ^ 32 - 1) c.0.1 number.0 (omega arith) number.1 in
    let node = count_then_spelled 64 path.0.1 n.0 n.1 in
    let visible = request_path_then_fits which.0.1 path.0 path.1 in
    let added = choice_then_fits n.0.1 add.0 add.1 in
    go c.0.0 number.0.0 path.0.0 n.0.0 add.0.0 add.0.1 (bytes_eq which.0.0 (codes "first")) add.2
    (λ choice fits. (client.1, omega (arith, small.1), visible, node.1, added, fits))
    (λ size queue little least. (client.1, omega (arith, small.1), visible, node.1, added, little, omega (arith, least))) where
      go : (c number : ℕ) (path : List ℕ) (n : ℕ) (add : Option ℕ) (rest : List (List ℕ)) (t : Bool)
          → cond t (first_choice_record c number path n add rest) (later_choice_record c number path n add rest) ≡ Some r
          → ((choice : Option ℕ) → IsChoice choice → IsReadable (rec.AssignedFirst c number path n add choice))
          → ((size queue : ℕ) → size < 2 ^ 32 → queue ≤ 2 ^ 32 - 1 → IsReadable (rec.AssignedLater c number path n add size queue))
          → IsReadable r
      go c number path n add rest true f first later =
          made (choice_alone rest) (rec.AssignedFirst c number path n add) r f (λ choice g. first choice (choice_alone_fits rest choice g))
      go c number path n add rest false f first later =
          made (two_numbers (2 ^ 32 - 1) rest) (λ batch. rec.AssignedLater c number path n add batch.0 batch.1) r f (λ batch g.
          let fits = two_numbers_fit (2 ^ 32 - 1) rest batch (omega arith) g in later batch.0 batch.1 fits.0 fits.1)

served_fits : (words : List (List ℕ)) (r : Rec) → report_served words ≡ Some r → IsReadable r
unfolding report_served
served_fits words r e =
    let place = bind_some (place_then words) _ r e in
    let c = bind_some (client_then place.0.1) _ r place.2 in
    let number = bind_some (number_then (2 ^ 32 - 1) c.0.1) _ r c.2 in
    let response = bind_some (response_of number.0.1) _ r number.2 in
    let small = number_then_spelled (2 ^ 32 - 1) c.0.1 number.0 (omega arith) number.1 in
    let fits = response_fits number.0.1 response.0 response.1 in
    subst IsReadable (some_same (rec.Served place.0.0 c.0.0 number.0.0 response.0.0 response.0.1 response.0.2) r response.2) (
      place_then_fits words place.0 place.1,
      (count_then_spelled 16384 place.0.1 c.0 c.1).1,
      omega (arith, small.1),
      fits.0,
      fits.1,
      fits.2,
    )

hit_fits : (words : List (List ℕ)) (r : Rec) → report_hit words ≡ Some r → IsReadable r
unfolding report_hit
hit_fits words r e =
    let n = bind_some (node_then words) _ r e in
    let path = bind_some (request_path_then n.0.1) _ r n.2 in
    let end = ended_some path.0.1 (rec.Hit n.0.0 path.0.0) r path.2 in
    subst IsReadable end.1 (node_then_fits words n.0 n.1, request_path_then_fits n.0.1 path.0 path.1)

closed_fits : (words : List (List ℕ)) (r : Rec) → report_closed words ≡ Some r → IsReadable r
unfolding report_closed
closed_fits words r e =
    let n = bind_some (node_then words) _ r e in
    let end = ended_some n.0.1 (rec.Closed n.0.0) r n.2 in
    subst IsReadable end.1 (node_then_fits words n.0 n.1)

clock_fits : (words : List (List ℕ)) (r : Rec) → report_clock words ≡ Some r → IsReadable r
unfolding report_clock
clock_fits words r e =
    let time = bind_some (number_then (2 ^ 64 - 1) words) _ r e in
    let end = ended_some time.0.1 (rec.Clock (record { 0 = time.0.0 })) r time.2 in
    let small = number_then_spelled (2 ^ 64 - 1) words time.0 (omega arith) time.1 in
    subst IsReadable end.1 (omega (arith, small.1))

-- a record of a client alone
client_fits : (make : ℕ → Rec) (words : List (List ℕ)) (r : Rec) → ((c : ℕ) → IsConn c → IsReadable (make c)) → (client_alone words >>= λ c. Some (make c)) ≡ Some r
    → IsReadable r
client_fits make words r fits e = made (client_alone words) make r e (λ c f. fits c (client_alone_spelled words c f).1)

-- and of a number alone
number_fits : (make : ℕ → Rec) (words : List (List ℕ)) (r : Rec) → ((n : ℕ) → n < 2 ^ 32 → IsReadable (make n)) → (number_alone words >>= λ n. Some (make n)) ≡ Some r
    → IsReadable r
number_fits make words r fits e = made (number_alone words) make r e (λ n f. fits n (number_alone_spelled words n f).1)

after_fits : (k : Kind) (words : List (List ℕ)) (r : Rec) → record_after k words ≡ Some r → IsReadable r
after_fits kind.Event words r e = numbered_fits words r e
after_fits kind.Inner words r e = made (event_of words) rec.Inner r e (event_fits words)
after_fits kind.Opened words r e = opened_fits words r e
after_fits kind.Wrote words r e = made (client_and_bytes words) (λ found. rec.Wrote found.0 found.1) r e (client_and_bytes_fit words)
after_fits kind.Sent words r e = sent_fits words r e
after_fits kind.Got words r e = number_fits rec.Got words r (λ k h. h) e
after_fits kind.Lost words r e = number_fits rec.Lost words r (λ k h. h) e
after_fits kind.Accepted words r e = made (client_and_bytes words) (λ found. rec.Accepted found.0 found.1) r e (client_and_bytes_fit words)
after_fits kind.Eof words r e = client_fits rec.Eof words r (λ c h. h) e
after_fits kind.Took words r e =
    made (place_client_number (2 ^ 16 - 1) words) (λ found. rec.Took found.0 found.1 (record { 0 = found.2 })) r e (λ found f.
    let fits = place_client_number_fits (2 ^ 16 - 1) words found (omega arith) f in (fits.0, fits.1, omega (arith, fits.2)))
after_fits kind.Gave words r e =
    made (place_client_number (2 ^ 16 - 1) words) (λ found. rec.Gave found.0 found.1 (record { 0 = found.2 })) r e (λ found f.
    let fits = place_client_number_fits (2 ^ 16 - 1) words found (omega arith) f in (fits.0, fits.1, omega (arith, fits.2)))
after_fits kind.Waits words r e = client_fits rec.Waits words r (λ c h. h) e
after_fits kind.Admitted words r e = client_fits rec.Admitted words r (λ c h. h) e
after_fits kind.Released words r e = client_fits rec.Released words r (λ c h. h) e
after_fits kind.Assigned words r e = assigned_fits words r e
after_fits kind.BatchOver words r e = client_fits rec.BatchOver words r (λ c h. h) e
after_fits kind.Served words r e = served_fits words r e
after_fits kind.Hit words r e = hit_fits words r e
after_fits kind.Queued words r e = made (job_of words) (λ job. rec.Queued job.n job.m job.c job.r job.path) r e (job_fits words)
after_fits kind.Read words r e = made (job_of words) (λ job. rec.Read job.n job.m job.c job.r job.path) r e (job_fits words)
after_fits kind.Closed words r e = closed_fits words r e
after_fits kind.Armed words r e = made (place_client_timer words) (λ found. rec.Armed found.0 found.1 found.2) r e (place_client_timer_fits words)
after_fits kind.Cleared words r e = made (place_client_timer words) (λ found. rec.Cleared found.0 found.1 found.2) r e (place_client_timer_fits words)
after_fits kind.Reset words r e =
    made (place_client_number (2 ^ 32 - 1) words) (λ found. rec.Reset found.0 found.1 found.2) r e (λ found f.
    let fits = place_client_number_fits (2 ^ 32 - 1) words found (omega arith) f in (fits.0, fits.1, omega (arith, fits.2)))
after_fits kind.Aborted words r e = client_fits rec.Aborted words r (λ c h. h) e
after_fits kind.Injected words r e = client_fits rec.Injected words r (λ c h. h) e
after_fits kind.Clock words r e = clock_fits words r e
after_fits kind.Settled words r e = number_fits rec.Settled words r (λ n h. h) e
after_fits kind.Unsettled words r e =
    made (two_numbers (2 ^ 64 - 1) words) (λ found. rec.Unsettled found.0 found.1) r e (λ found f.
    let fits = two_numbers_fit (2 ^ 64 - 1) words found (omega arith) f in (fits.0, omega (arith, fits.1)))

pub loosely_fits : (words : List (List ℕ)) (r : Rec) → loosely_of words ≡ Some r → IsReadable r
unfolding loosely_of
loosely_fits words r e =
    let first = bind_some (word_then words) _ r e in
    let k = bind_some (record_kind first.0.0) _ r first.2 in
    after_fits k.0 first.0.1 r k.2
