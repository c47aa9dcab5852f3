-- What a segment, a timer and what is said keep of an endpoint.
use Rattle.std.proofs.Common.{◌≡◌, ℕ, ◌+◌, ◌-◌, ◌≤◌, ◌<◌, ◌==◌, nat_lt, max, not, ◌&&◌, ◌||◌, Bool, true, false, cond, List, ◌++◌, length, length-append, drop, ◌^◌, refl, ◌∙◌, arith}
use Rattle.std.proofs.lemmas.List.{length-take}
use Rattle.std.proofs.lemmas.Bool.{cond_both, eq-eqb, eqb-false, eqb-true, ltb-false, ltb-true, not-true}
use Rattle.lard_base.specs.declared.place.Place.{Place}
use Rattle.lard_endpoint.specs.Arriving.{on_segment}
use Rattle.lard_endpoint.specs.Control.{ControlBlock}
use Rattle.lard_endpoint.specs.Leaving.{advanced, after_emit, after_timer, retried}
use Rattle.lard_endpoint.specs.Moving.{is_closed, may_freeze}
use Rattle.lard_rules.specs.FrontSound.{Serves}
use Rattle.lard_recv.specs.Recv.{Received, arrived, awaited, begins_after, ends, fresh_bytes, receive_room, bytes_taken}
use Rattle.lard_rules.proofs.Endings.{StaysWith, settled-stays, spoken-stays}
use Rattle.lard_rules.proofs.Hearing as hearing
use Rattle.lard_rules.proofs.Loops.{speaks_keep}
use Rattle.lard_rules.proofs.Sides.{ack-side, next-side, resend-side}
use Rattle.lard_rules.specs.declared.places.Ending.{Ending}
use Rattle.lard_rules.specs.Serving.{ServeEnv, Service, serving_settled, spoken}
use Rattle.lard_rules.specs.Speaking.{speaks}
use Rattle.lard_segment.specs.Segment.{Said}
use Rattle.lard_send.specs.Send.{Sending, after_ack, after_next, after_resend, is_clear, is_newer, send_left, may_send, moved_up, next_fin, next_len, symbols, unsent_bytes, windowed}
use Rattle.lard_seq.specs.Seq.{one_if, seq_offset}

-- ---- what each of its parts keeps, it keeps

-- P, of both halves, is kept by what came and by what was acknowledged, and by what is sent
pub record KeptByTurns (P : Received → Sending → Type 0) : Type 0 where
  pub comes : (r : Received) (s : Sending) (seq : ℕ) (bytes : List ℕ) (fin : Bool) → P r s → P (arrived r seq bytes fin) s
  pub acks : (r : Received) (s : Sending) (ack seq wnd : ℕ) → P r s → P r (after_ack s ack seq wnd)
  pub nexts : (r : Received) (s : Sending) → P r s → P r (after_next s)
  pub again : (r : Received) (s : Sending) → P r s → P r (after_resend s)

module _ (P : Received → Sending → Type 0) (kept : KeptByTurns P) where
  abbrev pub Of : ControlBlock → Type 0
  Of b = P b.recv b.send

  pub segment-keeps : (b : ControlBlock) (s : Said) → Of b → Of (on_segment b s).1
  segment-keeps b s h =
      let k : P b.recv (after_ack b.send s.ack s.seq s.wnd) = kept.acks b.recv b.send s.ack s.seq s.wnd h in
      hearing.segment-keeps b s Of (record { rests = λ owed. h; resets = λ t. h; acks = λ owed c. k; comes = λ c some. kept.comes b.recv (after_ack b.send s.ack s.seq s.wnd) s.seq s.payload s.flags.fin k })

  emit-keeps : (b : ControlBlock) → Of b → Of (after_emit b)
  emit-keeps b h = let k : Of (advanced b) = kept.nexts b.recv b.send h in hearing.emit-keeps Of b h k k

  pub timer-keeps : (b : ControlBlock) → Of b → Of (after_timer b)
  timer-keeps b h = let k : Of (retried b) = kept.again b.recv b.send h in hearing.timer-keeps Of b h k k

  pub speaks-keep : (c : ℕ) (b : ControlBlock) → Of b → Of (speaks c b).1
  speaks-keep c b = speaks_keep c (λ b ss d. Of b → Of d) (record { rests = λ b h. h; says = λ b r ss d e later h. later (emit-keeps b h) }) b

-- ---- an endpoint that serves

-- Q, which does not see the window, is kept where what is acknowledged now keeps it
acks-keep : (Q : Sending → Type 0) → ((s : Sending) (wnd wl1 wl2 : ℕ) → Q s → Q (record s { wnd = wnd; wl1 = wl1; wl2 = wl2 }))
    → (s : Sending) (ack seq wnd : ℕ) → Q s → (seq_offset ack s.iss ≤ s.nxt → Q (moved_up s (seq_offset ack s.iss))) → Q (after_ack s ack seq wnd)
acks-keep Q blind s ack seq wnd h moves =
    let offset : ℕ = seq_offset ack s.iss in
    let up : Sending = moved_up s offset in
    let last : Sending = windowed up (s.una == 0) seq ack wnd in
    cond_both (nat_lt s.nxt offset) s (cond ((s.una == 0) && (offset == 0)) s last) Q (λ t. h) (λ t.
    let k : Q up = moves (ltb-false s.nxt offset t) in
    cond_both ((s.una == 0) && (offset == 0)) s last Q (λ u. h) (λ u.
    cond_both (s.una == 0 || is_newer up seq ack) (record up { wnd = wnd; wl1 = seq; wl2 = ack }) up Q (λ v. blind up wnd seq ack k) (λ v. k)))

abbrev IsWithin : Sending → Type 0
IsWithin s = s.nxt ≤ symbols s

-- the FIN goes with the last bytes where there is one
fin-few : (a b : Bool) → one_if (a && b) ≤ one_if a
fin-few true true = omega arith
fin-few true false = omega arith
fin-few false b = omega arith

pub one-few : (a : Bool) → one_if a ≤ 1
one-few true = omega arith
one-few false = omega arith

both : (a b : Bool) → (a && b) ≡ true → (a ≡ true) × (b ≡ true)
both true b h = (refl, h)
both false b h = let no : false ≡ true = h in absurd cc

nexts-within : (s : Sending) → s.nxt ≤ symbols s → (after_next s).nxt ≤ symbols (after_next s)
nexts-within s h =
    let more : Sending = record s { nxt = s.nxt + next_len s + one_if (next_fin s) } in
    cond_both (s.nxt == 0) (record s { nxt = 1 }) (cond (may_send s) more s) IsWithin (λ t. omega arith) (λ t.
    cond_both (may_send s) more s IsWithin
    (λ u.
    let some : s.nxt < symbols s = ltb-true s.nxt (symbols s) (both (nat_lt s.nxt (symbols s)) (nat_lt 0 (send_left s)) (both (not (s.una == 0)) (nat_lt s.nxt (symbols s) && nat_lt 0 (send_left s)) u).1).0 in
    let first : s.nxt ≡ 0 → ⊥ = eqb-false s.nxt 0 t in
    let fin : one_if (next_fin s) ≤ one_if s.finished = fin-few s.finished ((next_len s == unsent_bytes s) && nat_lt (next_len s) (send_left s)) in
    let len : next_len s ≤ unsent_bytes s = omega arith in
    omega (arith, some, first, fin, len, one-few s.finished))
    (λ u. h))

again-within : (s : Sending) → s.nxt ≤ symbols s → (after_resend s).nxt ≤ symbols (after_resend s)
again-within s h =
    let last : Sending = cond (nat_lt s.nxt (symbols s)) (record s { nxt = s.nxt + 1 }) s in
    cond_both (s.una == 0) (record s { nxt = max s.nxt 1 }) (cond (nat_lt s.una s.nxt) s last) IsWithin (λ t. omega (arith, h)) (λ t.
    cond_both (nat_lt s.una s.nxt) s last IsWithin (λ u. h) (λ u.
    cond_both (nat_lt s.nxt (symbols s)) (record s { nxt = s.nxt + 1 }) s IsWithin (λ v. let some : s.nxt < symbols s = ltb-true s.nxt (symbols s) v in omega (arith, some)) (λ v. h)))

up-within : (s : Sending) (offset : ℕ) → s.nxt ≤ symbols s → IsWithin (moved_up s offset)
up-within s offset h = cond_both (nat_lt s.una offset) (record s { una = offset; rest = drop ((offset - 1) - (s.una - 1)) s.rest }) s IsWithin (λ t. h) (λ t. h)

acks-within : (s : Sending) (ack seq wnd : ℕ) → s.nxt ≤ symbols s → IsWithin (after_ack s ack seq wnd)
acks-within s ack seq wnd h = acks-keep IsWithin (λ t w a b k. k) s ack seq wnd h (λ le. up-within s (seq_offset ack s.iss) h)

-- ---- the receiving half: so many of the bytes that came, at least, are not among the unread ones

abbrev HasRead : ℕ → Received → Type 0
HasRead n r = n + length r.unread ≤ r.got

taken-read : (n : ℕ) (r : Received) (bytes : List ℕ) (fin : Bool) → HasRead n r → HasRead n (bytes_taken r bytes fin)
taken-read n r bytes fin h = cond_both r.discarding r.unread (r.unread ++ bytes) (λ xs. n + length xs ≤ r.got + length bytes) (λ t. omega (arith, h)) (λ t. omega (arith, h, length-append r.unread bytes))

arrived-read : (n : ℕ) (r : Received) (seq : ℕ) (bytes : List ℕ) (fin : Bool) → HasRead n r → HasRead n (arrived r seq bytes fin)
arrived-read n r seq bytes fin h =
    let all : Received = bytes_taken r (fresh_bytes r seq bytes) (ends r seq bytes fin) in
    cond_both (begins_after seq (awaited r)) r (cond r.fin r all) (HasRead n) (λ t. h) (λ t.
    cond_both r.fin r all (HasRead n) (λ u. h) (λ u. taken-read n r (fresh_bytes r seq bytes) (ends r seq bytes fin) h))

arrived-most : (r : Received) (seq : ℕ) (bytes : List ℕ) (fin : Bool) → r.got ≤ 2 ^ 30 → (arrived r seq bytes fin).got ≤ 2 ^ 30
arrived-most r seq bytes fin h =
    let all : Received = bytes_taken r (fresh_bytes r seq bytes) (ends r seq bytes fin) in
    cond_both (begins_after seq (awaited r)) r (cond r.fin r all) (λ q. q.got ≤ 2 ^ 30) (λ t. h) (λ t.
    cond_both r.fin r all (λ q. q.got ≤ 2 ^ 30) (λ u. h) (λ u. omega (arith, h, length-take (receive_room r) (drop (seq_offset (awaited r) seq) bytes))))

-- ---- an endpoint that serves

serves-kept : (n : ℕ) → KeptByTurns (Serves n)
serves-kept n = record {
  comes = λ r s seq bytes fin h. record { asked = arrived-read n r seq bytes fin h.asked; most = arrived-most r seq bytes fin h.most; sent = h.sent };
  acks = λ r s ack seq wnd h. record { asked = h.asked; most = h.most; sent = acks-within s ack seq wnd h.sent };
  nexts = λ r s h. record { asked = h.asked; most = h.most; sent = nexts-within s h.sent };
  again = λ r s h. record { asked = h.asked; most = h.most; sent = again-within s h.sent };
}

abbrev pub ServesAs : ℕ → ControlBlock → Type 0
ServesAs n b = Serves n b.recv b.send

pub segment-serves : (n : ℕ) (b : ControlBlock) (s : Said) → ServesAs n b → ServesAs n (on_segment b s).1
segment-serves n = segment-keeps (Serves n) (serves-kept n)

pub timer-serves : (n : ℕ) (b : ControlBlock) → ServesAs n b → ServesAs n (after_timer b)
timer-serves n = timer-keeps (Serves n) (serves-kept n)

speaks-serve : (n c : ℕ) (b : ControlBlock) → ServesAs n b → ServesAs n (speaks c b).1
speaks-serve n = speaks-keep (Serves n) (serves-kept n)

-- where its turn ends
abbrev pub EndsServing : Ending → Type 0
EndsServing = StaysWith (λ b count. Serves count b.recv b.send)

pub spoken-serves : (env : ServeEnv) (w : Service) (before : List (Place × List ℕ)) → ServesAs w.count w.block → EndsServing (spoken env w before).0
spoken-serves env w before h = spoken-stays (λ b count. ServesAs count b) env w before (λ stays. speaks-serve w.count env.c w.block h)

pub settled-serves : (env : ServeEnv) (w : Service) → ServesAs w.count w.block → EndsServing (serving_settled env w).0
settled-serves env w h = settled-stays (λ b count. ServesAs count b) env w (λ none stays. speaks-serve w.count env.c w.block h)

-- ---- an endpoint that may move

-- all that was queued is acknowledged, nothing ends it, and nothing is thrown away
pub record IsIdle (r : Received) (s : Sending) : Type 0 where
  pub kept : r.discarding ≡ false
  pub unfinished : s.finished ≡ false
  pub clear : s.una ≡ symbols s
  pub sent : s.nxt ≤ symbols s

arrived-kept : (r : Received) (seq : ℕ) (bytes : List ℕ) (fin : Bool) → r.discarding ≡ false → (arrived r seq bytes fin).discarding ≡ false
arrived-kept r seq bytes fin h =
    let all : Received = bytes_taken r (fresh_bytes r seq bytes) (ends r seq bytes fin) in
    cond_both (begins_after seq (awaited r)) r (cond r.fin r all) (λ q. q.discarding ≡ false) (λ t. h) (λ t. cond_both r.fin r all (λ q. q.discarding ≡ false) (λ u. h) (λ u. h))

abbrev IsClear : Sending → Type 0
IsClear s = s.una ≡ symbols s

-- nothing was sent that is not acknowledged, so no segment acknowledges more
acks-clear : (s : Sending) (ack seq wnd : ℕ) → s.una ≡ symbols s → s.nxt ≤ symbols s → IsClear (after_ack s ack seq wnd)
acks-clear s ack seq wnd h sent =
    let offset : ℕ = seq_offset ack s.iss in
    acks-keep IsClear (λ t w a b k. k) s ack seq wnd h (λ le.
    cond_both (nat_lt s.una offset) (record s { una = offset; rest = drop ((offset - 1) - (s.una - 1)) s.rest }) s IsClear (λ t. absurd (omega (arith, le, h, sent, ltb-true s.una offset t))) (λ t. h))

nexts-clear : (s : Sending) → s.una ≡ symbols s → IsClear (after_next s)
nexts-clear s h =
    let more : Sending = record s { nxt = s.nxt + next_len s + one_if (next_fin s) } in
    cond_both (s.nxt == 0) (record s { nxt = 1 }) (cond (may_send s) more s) IsClear (λ t. h) (λ t. cond_both (may_send s) more s IsClear (λ u. h) (λ u. h))

again-clear : (s : Sending) → s.una ≡ symbols s → IsClear (after_resend s)
again-clear s h =
    let last : Sending = cond (nat_lt s.nxt (symbols s)) (record s { nxt = s.nxt + 1 }) s in
    cond_both (s.una == 0) (record s { nxt = max s.nxt 1 }) (cond (nat_lt s.una s.nxt) s last) IsClear (λ t. h) (λ t.
    cond_both (nat_lt s.una s.nxt) s last IsClear (λ u. h) (λ u. cond_both (nat_lt s.nxt (symbols s)) (record s { nxt = s.nxt + 1 }) s IsClear (λ v. h) (λ v. h)))

idle-kept : KeptByTurns IsIdle
idle-kept = record {
  comes = λ r s seq bytes fin h. record { kept = arrived-kept r seq bytes fin h.kept; unfinished = h.unfinished; clear = h.clear; sent = h.sent };
  acks = λ r s ack seq wnd h. record { kept = h.kept; unfinished = (ack-side s ack seq wnd).finished ∙ h.unfinished; clear = acks-clear s ack seq wnd h.clear h.sent; sent = acks-within s ack seq wnd h.sent };
  nexts = λ r s h. record { kept = h.kept; unfinished = (next-side s).finished ∙ h.unfinished; clear = nexts-clear s h.clear; sent = nexts-within s h.sent };
  again = λ r s h. record { kept = h.kept; unfinished = (resend-side s).finished ∙ h.unfinished; clear = again-clear s h.clear; sent = again-within s h.sent };
}

pub idle-of : (b : ControlBlock) → may_freeze b ≡ true → b.send.nxt ≤ symbols b.send → IsIdle b.recv b.send
idle-of b may sent =
    let parts = both (is_clear b.send && not b.send.finished) (not b.recv.discarding && not b.reset) may in
    let sending = both (is_clear b.send) (not b.send.finished) parts.0 in
    record {
      kept = not-true b.recv.discarding (both (not b.recv.discarding) (not b.reset) parts.1).0;
      unfinished = not-true b.send.finished sending.1;
      clear = eqb-true b.send.una (symbols b.send) sending.0;
      sent = sent;
    }

idle-may : (b : ControlBlock) → IsIdle b.recv b.send → b.reset ≡ false → may_freeze b ≡ true
idle-may b h reset = λ i. (eq-eqb b.send.una (symbols b.send) h.clear i && not (h.unfinished i)) && (not (h.kept i) && not (reset i))

abbrev pub IdleAs : ControlBlock → Type 0
IdleAs b = IsIdle b.recv b.send

pub segment-idle : (b : ControlBlock) (s : Said) → IdleAs b → IdleAs (on_segment b s).1
segment-idle = segment-keeps IsIdle idle-kept

pub timer-idle : (b : ControlBlock) → IdleAs b → IdleAs (after_timer b)
timer-idle = timer-keeps IsIdle idle-kept

-- where its turn ends, it may move
abbrev pub EndsIdle : Ending → Type 0
EndsIdle = StaysWith (λ b count. may_freeze b ≡ true)

not-either : (a b : Bool) → (a || b) ≡ false → a ≡ false
not-either false b h = refl
not-either true b h = let no : true ≡ false = h in absurd cc

pub spoken-idle : (env : ServeEnv) (w : Service) (before : List (Place × List ℕ)) → IdleAs w.block → EndsIdle (spoken env w before).0
spoken-idle env w before h =
    let b : ControlBlock = (speaks env.c w.block).1 in
    spoken-stays (λ b count. may_freeze b ≡ true) env w before (λ stays. idle-may b (speaks-keep IsIdle idle-kept env.c w.block h) (not-either b.reset (is_closed b) stays))
