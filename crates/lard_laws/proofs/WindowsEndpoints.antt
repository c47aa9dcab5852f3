-- What an endpoint says has a window that ends far enough, and symbols that count as sent.
use Rattle.std.proofs.Common.{◌≡◌, ◌≤◌, ◌<◌, ◌+◌, ◌-◌, ◌^◌, ◌==◌, ◌&&◌, ◌||◌, nat_lt, max, ℕ, Bool, true, false, cond, List, ◌++◌, length, take, drop, Option, Some, None, refl, ap, ◌∙◌, subst, arith}
use Rattle.std.proofs.lemmas.Bool.{both_ways, cond_both, eqb-true, ltb-false}
use Rattle.std.proofs.lemmas.List.{length-take}
use Rattle.lard_law_view.specs.Prelude.{ControlBlock, IsControlBlock, IsSendable, IsSending, Ready, Received, Said, Sending, ServeEnv, Service, Speaks, Verdict, Via, ack_ready, acknowledged_bytes, advanced, after_ack, after_emit, after_next, after_piece, after_resend, after_timer, answer, answered, closes, consuming, discarding_on, emitted, ended_at_fin, filled, final_of, finishing, is_newer, limit_said, may_read, may_send, moved_up, next_fin, next_len, next_piece, on_segment, one_if, owes, passed_over, piece_ready, piece_seq, queued, queueing, rcv_nxt, rcv_wnd, ready_of, resent_piece, retried, seg_len, seq_add, seq_offset, speaks, symbols, timed, told, windowed}
use Rattle.lard_base.specs.declared.place.Reason.TheVariants.{Limit}
use Rattle.lard_law_connections.proofs.LimitsServing.{reads-unfinished}
use Rattle.lard_law_connections.proofs.LimitsWorking.{KeptByServing}
use Rattle.lard_law_connections.proofs.SilenceEndpoints.{Anything, window-wide}
use Rattle.lard_law_connections.proofs.SilenceTurns.{IsKept}
use Rattle.lard_laws.specs.Windows.{IsEnd, ReachesFar}
use Rattle.lard_laws.proofs.WindowsPieces.{IsSent, next-is, resend-is}
use Rattle.lard_endpoint.proofs.Sound.{after_emit-sound, after_next-sound, after_resend-sound, after_timer-sound, on_segment-sound, queueing-sound}
use Rattle.lard_endpoint.proofs.Windows.{emitted-tells, timed-tells}
use Rattle.lard_law_view.proofs.EndpointStreams.{segment-takes}
use Rattle.lard_recv.proofs.Window.{arrived-irs}
use Rattle.lard_rules.proofs.Endpoints.{consuming-sound, finishing-sound}
use Rattle.lard_rules.proofs.Halves.{KeptBySending, endpoint-emit, endpoint-fires, endpoint-segment}
use Rattle.lard_rules.proofs.Loops.{speaks_keep}
use Rattle.lard_send.specs.declared.piece.Piece.{Piece}
use Rattle.lard_seq.proofs.Laws.{offset-add}
use Rattle.lard_law_view.proofs.Endpoint.{arriving-speaks, emit-left, emitted-fair, timed-fair, timer-left}
use Rattle.lard_law_view.proofs.Speaking.{next-moves, resend-moves, speaks-closed, speaks-queued}

-- ---- its numbers

-- the cluster's first number stays, and what was sent stays sent
abbrev HasNumbers : ℕ → ℕ → Sending → Type 0
HasNumbers iss sent s = (s.iss ≡ iss) × (sent ≤ s.nxt)

ack-numbers : (iss sent : ℕ) (s : Sending) (ack seq wnd : ℕ) → HasNumbers iss sent s → HasNumbers iss sent (after_ack s ack seq wnd)
ack-numbers iss sent s ack seq wnd h =
    let offset = seq_offset ack s.iss in
    let up = moved_up s offset in
    let k : HasNumbers iss sent up = cond_both (nat_lt s.una offset) (record s { una = offset; rest = drop ((offset - 1) - (s.una - 1)) s.rest }) s (HasNumbers iss sent) (λ t. h) (λ t. h) in
    cond_both (nat_lt s.nxt offset) s (cond ((s.una == 0) && (offset == 0)) s (windowed up (s.una == 0) seq ack wnd)) (HasNumbers iss sent) (λ t. h) (λ t.
    cond_both ((s.una == 0) && (offset == 0)) s (windowed up (s.una == 0) seq ack wnd) (HasNumbers iss sent) (λ u. h) (λ u.
    cond_both ((s.una == 0) || is_newer up seq ack) (record up { wnd = wnd; wl1 = seq; wl2 = ack }) up (HasNumbers iss sent) (λ v. k) (λ v. k)))

next-numbers : (iss sent : ℕ) (s : Sending) → HasNumbers iss sent s → HasNumbers iss sent (after_next s)
next-numbers iss sent s h = go (s.nxt == 0) refl (may_send s) where
  go : (t : Bool) → (s.nxt == 0) ≡ t → (m : Bool) → HasNumbers iss sent (cond t (record s { nxt = 1 }) (cond m (record s { nxt = s.nxt + next_len s + one_if (next_fin s) }) s))
  go true e m = (h.0, let z : s.nxt ≡ 0 = eqb-true s.nxt 0 e in omega (arith, h.1, z))
  go false e true = (h.0, omega (arith, h.1))
  go false e false = h

resend-numbers : (iss sent : ℕ) (s : Sending) → HasNumbers iss sent s → HasNumbers iss sent (after_resend s)
resend-numbers iss sent s h =
    let last : Sending = cond (nat_lt s.nxt (symbols s)) (record s { nxt = s.nxt + 1 }) s in
    cond_both (s.una == 0) (record s { nxt = max s.nxt 1 }) (cond (nat_lt s.una s.nxt) s last) (HasNumbers iss sent) (λ t. (h.0, omega (arith, h.1))) (λ t.
    cond_both (nat_lt s.una s.nxt) s last (HasNumbers iss sent) (λ u. h) (λ u.
    cond_both (nat_lt s.nxt (symbols s)) (record s { nxt = s.nxt + 1 }) s (HasNumbers iss sent) (λ v. (h.0, omega (arith, h.1))) (λ v. h)))

numbers : (iss sent : ℕ) → KeptBySending (HasNumbers iss sent)
numbers iss sent = record { acks = ack-numbers iss sent; nexts = next-numbers iss sent; resends = resend-numbers iss sent; closes = λ s h. h; learns = λ s irs mss h. h }

one-few : (b : Bool) → one_if b ≤ 1
one-few true = omega arith
one-few false = omega arith

-- ---- what a piece's segment has

fin-one : (b : Bool) → cond b 1 0 ≡ one_if b
fin-one true = refl
fin-one false = refl

-- its symbols were sent, by the first number of all
piece-ends : (c : ControlBlock) (p : Piece) (few : ℕ) (iss : ℕ) → c.send.iss ≡ iss → iss < 2 ^ 32 → IsSent c.send p → c.send.nxt < 2 ^ 32 → few ≤ p.len
    → seq_offset (piece_seq c p) iss + (few + cond p.syn 1 0 + cond p.fin 1 0) ≤ c.send.nxt
piece-ends c p few iss same small h most le = go p.syn refl where
  go : (b : Bool) → p.syn ≡ b → seq_offset (cond b c.send.iss (seq_add c.send.iss (1 + p.at))) iss + (few + cond b 1 0 + cond p.fin 1 0) ≤ c.send.nxt
  go true e =
      let alone = h.alone e in
      let none : ◌≡◌ {A = ℕ} (cond p.fin 1 0) 0 = ap (λ b. cond {A = ℕ} b 1 0) alone.1 in
      let first : seq_offset c.send.iss iss ≡ 0 = omega (arith, same) in
      omega (arith, alone.0, none, first, h.syn e, le)
  go false e =
      let fin = fin-one p.fin in
      let bytes = h.bytes e in
      let at : seq_offset (seq_add c.send.iss (1 + p.at)) iss ≡ 1 + p.at = ap (λ i. seq_offset (seq_add i (1 + p.at)) iss) same ∙ offset-add iss (1 + p.at) small (omega (arith, bytes, most)) in
      omega (arith, at, fin, bytes, le)

abbrev Ends : ℕ → ControlBlock → Ready → Type 0
Ends iss d r = 0 < seg_len (filled d r) → seq_offset (filled d r).seq iss + seg_len (filled d r) ≤ d.send.nxt

nxt-small : (s : Sending) → IsSending s → s.nxt < 2 ^ 32
nxt-small s h = let q : s.nxt ≤ symbols s = h.queued in let m : s.total ≤ 2 ^ 30 = h.most in omega (arith, q, m, one-few s.finished)

pieces-end : (iss : ℕ) (c d : ControlBlock) (p : Piece) → d.send ≡ c.send → c.send.iss ≡ iss → iss < 2 ^ 32 → IsSent c.send p → c.send.nxt < 2 ^ 32 → Ends iss d (piece_ready c p)
pieces-end iss c d p same first small h most some =
    let len = length-take p.len (drop (p.at - acknowledged_bytes d.send) d.send.rest) in
    let k = piece-ends c p (length (take p.len (drop (p.at - acknowledged_bytes d.send) d.send.rest))) iss first small h most (omega (arith, len)) in
    let nxt : d.send.nxt ≡ c.send.nxt = ap (λ (t : Sending). t.nxt) same in
    omega (arith, k, nxt)

emitted-ends : (iss : ℕ) (b : ControlBlock) (r : Ready) → IsControlBlock b → b.send.iss ≡ iss → iss < 2 ^ 32 → emitted b ≡ Some r → Ends iss (after_emit b) r
emitted-ends iss b r h first small e = go b.reset (next_piece b.send) refl (owes (advanced b)) e where
  go : (t : Bool) (p : Option Piece) → next_piece b.send ≡ p → (o : Bool)
      → cond {A = Option Ready} t None (ready_of (advanced b) p (cond {A = Option Ready} o (Some (ack_ready (advanced b))) None)) ≡ Some r
      → Ends iss (cond t b (after_piece (advanced b) p (cond o (told (advanced b)) (advanced b)))) r
  go true p q o k = absurd (let no : None ≡ Some r = k in cc)
  go false (Some p) q o k =
      let same : piece_ready (advanced b) p ≡ r = cc in
      subst (Ends iss (told (advanced b))) same (pieces-end iss (advanced b) (told (advanced b)) p refl (ap (λ (t : Sending). t.iss) (next-moves b.send) ∙ first) small (next-is b.send p q) (nxt-small (after_next b.send) (after_next-sound b.send h.sending)))
  go false None q true k = let same : ack_ready (advanced b) ≡ r = cc in subst (Ends iss (told (advanced b))) same (λ some. absurd (omega (arith, some)))
  go false None q false k = absurd (let no : None ≡ Some r = k in cc)

timed-ends : (iss : ℕ) (b : ControlBlock) (r : Ready) → IsControlBlock b → b.send.iss ≡ iss → iss < 2 ^ 32 → timed b ≡ Some r → Ends iss (after_timer b) r
timed-ends iss b r h first small e = go b.reset (resent_piece b.send) refl e where
  go : (t : Bool) (p : Option Piece) → resent_piece b.send ≡ p → cond {A = Option Ready} t None (ready_of (retried b) p None) ≡ Some r → Ends iss (cond t b (after_piece (retried b) p (retried b))) r
  go true p q k = absurd (let no : None ≡ Some r = k in cc)
  go false (Some p) q k =
      let same : piece_ready (retried b) p ≡ r = cc in
      subst (Ends iss (told (retried b))) same (pieces-end iss (retried b) (told (retried b)) p refl (ap (λ (t : Sending). t.iss) (resend-moves b.send) ∙ first) small (resend-is b.send p h.sending q) (nxt-small (after_resend b.send) (after_resend-sound b.send h.sending)))
  go false None q k = absurd (let no : None ≡ Some r = k in cc)

-- ---- an endpoint in a turn

-- O is what else is known while an endpoint of the connection is at this place, and Q what of that stays known of what it says
module _ (isn iss sent : ℕ) (small : isn < 2 ^ 32) (O Q : Type 0) (known : O → Q) where
  -- it is an endpoint of the connection, and no less was sent
  abbrev pub Goes : ControlBlock → Type 0
  Goes b = IsEnd isn iss b × (sent ≤ b.send.nxt) × O

  made : (b d : ControlBlock) (bytes : List ℕ) → Goes b → IsControlBlock d → d.recv.irs ≡ b.recv.irs → HasNumbers iss sent d.send → Speaks d.send bytes → Goes d
  made b d bytes h sound irs n speaks = (record { sound = sound; irs_is = irs ∙ h.0.irs_is; iss_is = n.0; bytes = bytes; speaks = speaks }, n.1, h.2)

  heard-goes : (b : ControlBlock) (s : Said) → Goes b → Goes (on_segment b s).1
  heard-goes b s h = made b (on_segment b s).1 h.0.bytes h (on_segment-sound b s h.0.sound)
      (segment-takes (λ (z : Received). z.irs ≡ b.recv.irs) s b refl (arrived-irs b.recv s.seq s.payload s.flags.fin))
      (endpoint-segment (HasNumbers iss sent) (numbers iss sent) b s (h.0.iss_is, h.1)) (arriving-speaks b h.0.bytes s h.0.speaks).0

  timer-goes : (b : ControlBlock) → Goes b → Goes (after_timer b)
  timer-goes b h =
      let l = timer-left b h.0.bytes h.0.speaks in
      made b (after_timer b) h.0.bytes h (after_timer-sound b h.0.sound) (ap (λ (r : Received). r.irs) l.2) (endpoint-fires (HasNumbers iss sent) (numbers iss sent) b (h.0.iss_is, h.1)) l.0

  emit-goes : (b : ControlBlock) → Goes b → Goes (after_emit b)
  emit-goes b h =
      let l = emit-left b h.0.bytes h.0.speaks in
      made b (after_emit b) h.0.bytes h (after_emit-sound b h.0.sound) (ap (λ (r : Received). r.irs) l.2) (endpoint-emit (HasNumbers iss sent) (numbers iss sent) b (h.0.iss_is, h.1)) l.0

  -- ---- what it says

  -- it can be sent, and reaches as far as the endpoint sent then
  abbrev pub Replies : ControlBlock → Said → Type 0
  Replies d s = IsSendable s × ReachesFar isn iss d.send.nxt s × Q

  -- its window ends far enough
  wide-end : (b : ControlBlock) (ack wnd : ℕ) → IsEnd isn iss b → ack ≡ rcv_nxt b → wnd ≡ rcv_wnd b → 16384 ≤ seq_offset ack isn + wnd
  wide-end b ack wnd h at is =
      let n = 1 + b.recv.got + one_if b.recv.fin in
      let few = h.sound.received.received in
      let one : one_if b.recv.fin ≤ 1 = one-few b.recv.fin in
      let offset : seq_offset (seq_add isn n) isn ≡ n = offset-add isn n small (omega (arith, few, one)) in
      let same : seq_offset ack isn ≡ n = ap (λ a. seq_offset a isn) (at ∙ ap (λ i. seq_add i n) h.irs_is) ∙ offset in
      omega (arith, same, is, window-wide b h.sound)

  first-small : (b : ControlBlock) → IsEnd isn iss b → iss < 2 ^ 32
  first-small b h = let n = h.speaks.number in omega (arith, n, h.iss_is)

  says-emitted : (b : ControlBlock) (r : Ready) → Goes b → emitted b ≡ Some r → Replies (after_emit b) (filled (after_emit b) r)
  says-emitted b r h e = (
    (emitted-fair b h.0.bytes h.0.speaks r e).1,
    record { wide = λ rst. let t = emitted-tells b r e in wide-end b r.ack.0 r.wnd h.0 t.ack t.wnd; ends = λ rst. emitted-ends iss b r h.0.sound h.0.iss_is (first-small b h.0) e },
    known h.2,
  )

  says-timed : (b : ControlBlock) (r : Ready) → Goes b → timed b ≡ Some r → Replies (after_timer b) (filled (after_timer b) r)
  says-timed b r h e = (
    (timed-fair b h.0.bytes h.0.speaks r e).1,
    record { wide = λ rst. let t = timed-tells b r e in wide-end b r.ack.0 r.wnd h.0 t.ack t.wnd; ends = λ rst. timed-ends iss b r h.0.sound h.0.iss_is (first-small b h.0) e },
    known h.2,
  )

  says-later : (b : ControlBlock) (s : Said) → Goes b → Replies b s → Replies (after_emit b) s
  says-later b s h r =
      let more = (endpoint-emit (HasNumbers b.send.iss b.send.nxt) (numbers b.send.iss b.send.nxt) b (refl, omega arith)).1 in
      (r.0, record { wide = r.1.wide; ends = λ rst some. let le = r.1.ends rst some in omega (arith, le, more) }, r.2)

  -- a reset tells no window and has no symbols
  pub says-reset : (d : ControlBlock) (s : Said) → IsSendable s → s.flags.rst ≡ true → Q → Replies d s
  says-reset d s sendable rst o = (sendable, record { wide = λ f. absurd (both_ways s.flags.rst f rst); ends = λ f. absurd (both_ways s.flags.rst f rst) }, o)

  says-cut : (b : ControlBlock) → Goes b → Replies b (limit_said (final_of b Limit))
  says-cut b h = says-reset b (limit_said (final_of b Limit))
      (record { seq_fits = omega arith; ack_fits = omega arith; wnd_fits = omega arith; some_mss = tt; small_mss = tt; small_payload = omega arith; no_ack = λ f. absurd (cc) }) refl (known h.2)

  -- ---- serving

  dropped-sound : (b : ControlBlock) → IsControlBlock b → IsControlBlock (discarding_on b)
  dropped-sound b h = record { received = record { received = h.received.received; buffered = omega arith; within = omega arith; dropped = λ e. omega arith }; sending = h.sending; same_irs = h.same_irs }

  ended-goes : (w : Service) → Goes w.block → Goes (ended_at_fin w).block
  ended-goes w h = cond_both w.block.recv.fin (record w { block = finishing w.block }) w (λ (z : Service). Goes z.block)
      (λ t. made w.block (finishing w.block) h.0.bytes h (finishing-sound w.block h.0.sound) refl (h.0.iss_is, h.1) (speaks-closed w.block.send h.0.bytes h.0.speaks).0) (λ t. h)

  answered-goes : (env : ServeEnv) (via : Via) (v : Verdict) (w : Service) → env.stream ≤ 2 ^ 30 → may_read w ≡ true → Goes w.block → Goes (answered env via v w).block
  answered-goes env via v w most may h =
      let bytes = answer env.files v in
      let total = w.block.send.total + length bytes in
      let more = queueing w.block bytes in
      let open_ = reads-unfinished w may in
      cond_both (nat_lt env.stream total) (passed_over env total w) (queued env via v bytes w) (λ (z : Service). Goes z.block) (λ t. h) (λ t.
      let le : total ≤ env.stream = ltb-false env.stream total t in
      let count = h.0.speaks.part.count in
      let k : Goes more = made w.block more (h.0.bytes ++ bytes) h (queueing-sound w.block bytes open_ (omega (arith, le, most)) h.0.sound) refl (h.0.iss_is, h.1)
      (speaks-queued w.block.send h.0.bytes bytes open_ (omega (arith, le, most, count)) h.0.speaks).0 in
      cond_both (closes v) (finishing (discarding_on more)) more Goes
      (λ u. made more (finishing (discarding_on more)) k.0.bytes k (finishing-sound (discarding_on more) (dropped-sound more k.0.sound)) refl (k.0.iss_is, k.1) (speaks-closed more.send k.0.bytes k.0.speaks).0) (λ u. k))

  serving-goes : (env : ServeEnv) → env.stream ≤ 2 ^ 30 → KeptByServing env (λ (w : Service). Goes w.block)
  serving-goes env most = record {
    notes = λ w rs starts h. h;
    reads = λ w n h. made w.block (consuming w.block n) h.0.bytes h (consuming-sound w.block n h.0.sound) refl (h.0.iss_is, h.1) h.0.speaks;
    ends = ended-goes;
    answers = λ w way v may h. answered-goes env way v w most may h;
  }

  pub endpoint-law : (env : ServeEnv) → env.stream ≤ 2 ^ 30 → IsKept env Goes Goes Anything Replies
  endpoint-law env most = record {
    begins = λ b h. h;
    hears = λ b s h word. heard-goes b s h;
    fires = timer-goes;
    again = says-timed;
    emits = emit-goes;
    says = says-emitted;
    later = says-later;
    cuts = says-cut;
    serves = serving-goes env most;
    rests = λ b h stays. speaks_keep env.c (λ (b : ControlBlock) ss d. Goes b → Goes d) (record { rests = λ b h. h; says = λ b r ss d e later h. later (emit-goes b h) }) b h;
  }
