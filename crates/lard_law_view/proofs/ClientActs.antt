-- Each rule of a client takes no less than was taken, acknowledges no more, and aborts, resets and closes by its causes.
use Rattle.std.proofs.Common.{◌≡◌, ◌≤◌, ◌+◌, ◌^◌, ℕ, Bool, true, false, cond, ◌||◌, nat_lt, List, [], ◌∷◌, ◌++◌, length, take, drop, arith, refl, sym, ap, ◌∙◌, subst, inl, inr, ⊎_elim}
use Rattle.std.proofs.lemmas.Bool.{cond_both, cond-true}
use Rattle.lard_law_view.specs.Prelude.{Accepts, ClientAgrees, ClientBlock, Heard, Place, Rec, Sending, Speaks, Stream, abort_ready, aborted, accepted_note, client_after_timer, client_arrived, client_emits, client_holds, client_opened, client_shuts, client_taken, client_takes, client_timed, client_timer, client_writes, client_written, eof_note, heard_nothing, held_on, is_aborted_in, is_client_open, is_established, is_open_in, is_writing, queued_too, send_closed, seq_add, seq_offset, shut_down, silent, speaking, station_ready_of, stream_of, unsaid, unwritten, written_len}
use Rattle.lard_client.specs.declared.phase.Phase.TheVariants as phase
use Rattle.lard_journal.specs.declared.rec.Rec.TheVariants as rec
use Rattle.lard_law_view.proofs.Accepting.{arrived-takes}
use Rattle.lard_law_view.proofs.Client.{timed-fair, timer-left, abort-fair, reply-fair, arriving-continues, written-speaks, closing-speaks, others-change_nothing}
use Rattle.lard_law_view.proofs.ClientAlike.{IsLike, alike, timer-alike, arrived-alike}
use Rattle.lard_law_view.proofs.ClientSpeaking.{agrees-after}
use Rattle.lard_law_view.proofs.ClientAgreement.{opened-agrees}
use Rattle.lard_law_view.proofs.Acked.{WordsMay, ClientHolds, ClientActed, ClientActs, ClientAborts, ClientWritesActs, ClientGetsActs, ClientOpensActs, ends_in, taken_by}
use Rattle.lard_law_view.proofs.Acknowledging.{acks-offset}
use Rattle.lard_law_view.proofs.ClientSaying.{emits-same, emits-may, taken-same, timed-says, abort-says, reply-says, says-word, ready-may, may-append}
use Rattle.lard_law_view.proofs.ClientStepping.{Step, taken-grows, still, same-step, arrived-step, timer-step, shuts-step, holds-step, takes-step, writes-step, aborts-step}

-- ---- any turn
module _ (c : ℕ) (w out : Stream) (x : ClientBlock) (heard : ℕ) (gone was_reset : Bool) (most : length out.bytes ≤ 2 ^ 30) (h : ClientAgrees c w out x) (k : ClientHolds heard gone was_reset x) where
  abbrev Stepped : Heard × ClientBlock → Type 0
  Stepped r = Step heard gone was_reset x r

  abbrev Acted : ClientBlock → List Rec → List (Place × List ℕ) → Type 0
  Acted y notes segments = ClientActed c out.first heard gone was_reset x (y, record { notes = notes; segments = segments; answered = 0 })

  -- it made a step, noted an end that it heard, and sent this
  pub acted : (r : Heard × ClientBlock) (notes : List Rec) (segments : List (Place × List ℕ)) → Stepped r → (r.0.eof ≡ true → ends_in notes ≡ true)
      → WordsMay c out.first (taken_by r.1) gone segments → Acted r.1 notes segments
  acted r notes segments s noted sent = record {
    grows = taken-grows heard gone was_reset x r s;
    holds = record { acknowledged = s.1 k.acknowledged; aborts = s.6 k.aborts; resets = s.7 k.resets };
    sent = sent;
    ended = λ e. ⊎_elim (λ (a : x.eof ≡ true). inl a) (λ (a : r.0.eof ≡ true). inr (noted a)) (s.4 e);
    was_open = s.8;
    stays_shut = s.5;
  }

  -- the client after a step agrees
  agreed : (y : ClientBlock) (bytes : List ℕ) → IsLike x y → Speaks y.send bytes → Accepts out y → ClientAgrees c (stream_of y.send bytes) out y
  agreed y bytes like speaks accepts =
      let within = accepts.within in
      agrees-after c w (stream_of y.send bytes) out x y h like (omega arith) refl speaks accepts

  -- it speaks after its step
  pub acted-speaking : (r : Heard × ClientBlock) (bytes : List ℕ) (notes : List Rec) (segments : List (Place × List ℕ))
      → IsLike x r.1 → Speaks r.1.send bytes → Accepts out r.1 → Stepped r → (r.0.eof ≡ true → ends_in notes ≡ true)
      → ((m : ℕ) → taken_by r.1 ≤ m → WordsMay c out.first m gone segments)
      → ClientActed c out.first heard gone was_reset x (speaking notes segments r.1)
  acted-speaking r bytes notes segments like speaks accepts s noted sent =
      let y = r.1 in
      let count = unsaid y in
      let z = (client_emits count y).1 in
      let as_much = taken-same y z (emits-same count y) in
      let le : taken_by y ≤ taken_by z = subst (λ n. taken_by y ≤ n) (sym as_much) (omega arith) in
      acted (r.0, z) notes (segments ++ (client_emits count y).0) (same-step heard gone was_reset x y z r.0 (emits-same count y) s) noted
      (may-append c out.first (taken_by z) gone segments (client_emits count y).0 (sent (taken_by z) le)
      (emits-may c (stream_of y.send bytes) out gone (taken_by z) count y (agreed y bytes like speaks accepts) le))

  -- ---- turns of its own calls
  -- a client that is like it, and accepts as much of the stream
  abbrev After : ClientBlock → Type 0
  After y = IsLike x y × Accepts out y

  -- nothing differs
  after-same : After x
  after-same = (alike x, h.accepts)

  -- nothing is done
  quiet-acted : ClientActed c out.first heard gone was_reset x (x, silent)
  quiet-acted = acted (heard_nothing, x) [] [] (still heard gone was_reset x heard_nothing) (λ e. absurd (cc)) tt

  -- it closes its side
  shuts-acted : ClientActed c out.first heard gone was_reset x (client_shuts x)
  shuts-acted =
      let a = h.accepts in
      let after : After (shut_down x) =
      cond_both (is_client_open x) (record x { send = send_closed x.send }) x After
      (λ t. (alike x, record { first = a.first; within = a.within; final = a.final })) (λ t. after-same) in
      acted-speaking (heard_nothing, shut_down x) w.bytes [] [] after.0 (closing-speaks x w.bytes h.speaks).0 after.1 (shuts-step heard gone was_reset x)
      (λ e. absurd (cc)) (λ m le. tt)

  -- it leaves bytes in its window
  holds-acted : ClientActed c out.first heard gone was_reset x (client_holds x)
  holds-acted =
      let a = h.accepts in
      let after : After (held_on x) =
      cond_both (is_client_open x) (record x { holding = true }) x After
      (λ t. (alike x, record { first = a.first; within = a.within; final = a.final })) (λ t. after-same) in
      acted-speaking (heard_nothing, held_on x) w.bytes [] [] after.0 (subst (λ (s : Sending). Speaks s w.bytes) (sym (others-change_nothing x).0) h.speaks) after.1
      (holds-step heard gone was_reset x) (λ e. absurd (cc)) (λ m le. tt)

  -- it reads them
  takes-acted : ClientActed c out.first heard gone was_reset x (client_takes x)
  takes-acted =
      let a = h.accepts in
      let after : After (client_taken x) =
      cond_both (is_client_open x) (record x { holding = false; held = 0; owed = x.owed || is_established x }) x After
      (λ t. ((refl, refl, refl, λ e. omega arith), record { first = a.first; within = a.within; final = a.final })) (λ t. after-same) in
      acted-speaking (heard_nothing, client_taken x) w.bytes [] [] after.0 (subst (λ (s : Sending). Speaks s w.bytes) (sym (others-change_nothing x).1) h.speaks) after.1
      (takes-step heard gone was_reset x) (λ e. absurd (cc)) (λ m le. tt)

  -- its timer fires
  timer-acted : ClientActed c out.first heard gone was_reset x (client_timer x)
  timer-acted =
      let y = client_after_timer x in
      let after = timer-left out x w.bytes h.speaks h.accepts in
      let like = (timer-alike x).0 in
      let s = timer-step heard gone was_reset x in
      let more = taken-grows heard gone was_reset x (heard_nothing, y) s in
      acted-speaking (heard_nothing, y) w.bytes [] (station_ready_of y (client_timed x)) like after.0 after.2 s (λ e. absurd (cc))
      (λ m le. ready-may c out.first m gone y (client_timed x) (like.0 ∙ h.numbered)
      (λ r e. ((timed-fair x w.bytes h.sound h.wide h.speaks r e).1, says-word out gone m x y r h.accepts (omega arith) (timed-says gone x r e))))

  -- it writes, and may
  wrote-acted : (bytes : List ℕ) → is_writing x ≡ true → written_len x bytes ≤ 2 ^ 30
      → ClientActed c out.first heard gone was_reset x (speaking (rec.Wrote x.c bytes ∷ []) [] (client_written x bytes))
  wrote-acted bytes writes fits =
      let a = h.accepts in
      let count = h.speaks.part.count in
      let all : x.send.total + length bytes ≤ 2 ^ 30 = subst (λ b. x.send.total + cond b (length bytes) 0 ≤ 2 ^ 30) writes fits in
      let after : After (client_written x bytes) =
      cond_both (is_writing x) (record x { send = queued_too x.send bytes }) x After
      (λ t. (alike x, record { first = a.first; within = a.within; final = a.final })) (λ t. after-same) in
      acted-speaking (heard_nothing, client_written x bytes) (w.bytes ++ bytes) (rec.Wrote x.c bytes ∷ []) [] after.0
      (written-speaks x w.bytes bytes writes (omega arith) h.speaks).0 after.1 (writes-step heard gone was_reset x bytes) (λ e. absurd (cc)) (λ m le. tt)

  -- it writes, where it may
  writes-acted : (bytes : List ℕ) → written_len x bytes ≤ 2 ^ 30 → ClientActed c out.first heard gone was_reset x (client_writes x bytes)
  writes-acted bytes fits =
      cond_both (is_writing x) (speaking (rec.Wrote x.c bytes ∷ []) [] (client_written x bytes)) (x, silent) (ClientActed c out.first heard gone was_reset x)
      (λ t. wrote-acted bytes t fits) (λ t. quiet-acted)

-- ---- its rules

pub shuts-acts : ClientActs client_shuts
shuts-acts c w out x heard gone was_reset most h k = shuts-acted c w out x heard gone was_reset most h k

pub holds-acts : ClientActs client_holds
holds-acts c w out x heard gone was_reset most h k = holds-acted c w out x heard gone was_reset most h k

pub takes-acts : ClientActs client_takes
takes-acts c w out x heard gone was_reset most h k = takes-acted c w out x heard gone was_reset most h k

pub timer-acts : ClientActs client_timer
timer-acts c w out x heard gone was_reset most h k = timer-acted c w out x heard gone was_reset most h k

pub writes-acts : ClientWritesActs
writes-acts c w out x bytes heard gone was_reset most fits h k = writes-acted c w out x heard gone was_reset most h k bytes fits

-- One that aborts resets. The journal says by then that it aborted, whatever it said before.
pub aborts-acts : ClientAborts
aborts-acts c w out x heard before was_reset most h k =
    let y = aborted x in
    let told : ClientHolds heard true was_reset x = record { acknowledged = k.acknowledged; aborts = λ e. refl; resets = k.resets } in
    let s = aborts-step heard true was_reset x refl in
    let more = taken-grows heard true was_reset x (heard_nothing, y) s in
    let numbered : y.c ≡ c = cond_both (is_client_open x) (record x { phase = phase.Aborted }) x (λ (z : ClientBlock). z.c ≡ c) (λ t. h.numbered) (λ t. h.numbered) in
    acted c w out x heard true was_reset most h told (heard_nothing, y) (rec.Aborted x.c ∷ []) (station_ready_of y (abort_ready x)) s (λ e. absurd (cc))
    (ready-may c out.first (taken_by y) true y (abort_ready x) numbered
    (λ r e. ((abort-fair out x r e).1, says-word out true (taken_by y) x y r h.accepts more (abort-says true x r refl e))))

-- A client that shut and is open has its side closed.
pub shuts-finish : (x : ClientBlock) → is_client_open (client_shuts x).0 ≡ true → (client_shuts x).0.send.finished ≡ true
shuts-finish x e =
    let y = shut_down x in
    let same = emits-same (unsaid y) y in
    let P : ClientBlock → Type 0 = λ z. is_client_open z ≡ true → z.send.finished ≡ true in
    let shut : P y = cond_both (is_client_open x) (record x { send = send_closed x.send }) x P (λ t. λ u. refl) (λ t. λ u. absurd (cc)) in
    same.4 ∙ shut (ap is_open_in (sym same.3) ∙ e)

-- ---- a segment comes

-- an end that it heard is noted
ended-noted : (d : ℕ) (h : Heard) (payload : List ℕ) → h.eof ≡ true → ends_in (accepted_note d h payload ++ eof_note d h) ≡ true
ended-noted d h payload e =
    let note : eof_note d h ≡ rec.Eof d ∷ [] = cond-true h.eof (rec.Eof d ∷ []) [] e in
    cond_both (nat_lt 0 h.len) (rec.Accepted d (take h.len (drop h.from payload)) ∷ []) [] (λ (l : List Rec). ends_in (l ++ eof_note d h) ≡ true)
    (λ t. ap ends_in note) (λ t. ap ends_in note)

-- What it acknowledges after a segment is what it took by then, and UNA is at most what the segment tells.
pub gets-acts : ClientGetsActs
gets-acts c w out x s heard gone was_reset most number seq_fits ack_fits h t k reply cause =
    let r = client_arrived x s in
    let y = r.1 in
    let takes = arrived-takes out x s (record { number = number; most = most }) seq_fits h.accepts t in
    let like = arrived-alike x s in
    let begins : w.first ≡ x.send.iss = ap (λ (v : Stream). v.first) h.w_is in
    let told : s.flags.ack ≡ true → seq_offset s.ack x.send.iss ≤ heard = λ e.
    let acks = reply e in
    acks-offset x.send.iss heard s.ack h.speaks.number (acks.0, acks.1 ∙ ap (λ n. seq_add n acks.0) begins, acks.2) in
    let step = arrived-step heard gone was_reset x s told cause in
    let more = taken-grows heard gone was_reset x r step in
    acted-speaking c w out x heard gone was_reset most h k r w.bytes (accepted_note y.c r.0 s.payload ++ eof_note y.c r.0) (station_ready_of y r.0.reply)
    like (arriving-continues x w.bytes s h.speaks).0 takes.0 step (ended-noted y.c r.0 s.payload)
    (λ m le. ready-may c out.first m gone y r.0.reply (like.0 ∙ h.numbered)
    (λ q e. ((reply-fair out x s q ack_fits e).1, says-word out gone m x y q h.accepts (omega arith) (reply-says gone x s q k.aborts e))))

-- ---- the beginning
-- Its SYN has no ACK, and nothing is acknowledged yet.
pub opens-acts : ClientOpensActs
opens-acts c isn iss wnd mss n wide some small =
    let x = client_opened c isn wnd mss in
    let out : Stream = record { first = iss; bytes = []; ended = false } in
    let agrees = opened-agrees c isn wnd mss out n wide some small in
    let count = unsaid x in
    let z = (client_emits count x).1 in
    let same = emits-same count x in
    let una = same.0 in
    record {
      holds = λ gone was_reset. record {
        acknowledged = omega arith;
        aborts = λ e. absurd (let no : false ≡ true = ap is_aborted_in (sym same.3 ∙ e) in cc);
        resets = λ e. absurd (let no : true ≡ false = ap is_open_in (sym same.3 ∙ e) in cc);
      };
      sent = λ gone. emits-may c (unwritten isn) out gone (taken_by z) count x agrees (omega arith);
      not_ended = same.2;
    }
