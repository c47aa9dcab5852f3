-- An endpoint has said all that it may at the end of each turn, and tells its window as an open one.
use Rattle.std.proofs.Common.{◌≡◌, ◌≤◌, ◌<◌, ◌+◌, ◌-◌, ◌^◌, min, ℕ, zero, suc, Bool, true, false, cond, List, [], ◌∷◌, length, Option, Some, None, OnSome, refl, subst, arith}
use Rattle.std.proofs.lemmas.Bool.{cond_both, or_parts}
use Rattle.lard_law_view.specs.Prelude.{ControlBlock, EndpointParts, IsControlBlock, IsValidParts, Place, Ready, Received, Said, ServeEnv, Service, Verdict, Via, adopted, after_emit, after_timer, answer, answered, arrived, awaited, begins_after, bytes_taken, closes, discarding_on, emits, emits_left, emitted, ended_at_fin, ends, finishing, fresh_bytes, is_closed, listening, may_end, on_segment, queueing, rcv_wnd, speaks, to_client}
use Rattle.lard_law_connections.proofs.LimitsServing.{answered-sound, ended-sound, reads-unfinished}
use Rattle.lard_law_connections.proofs.LimitsWorking.{KeptByServing}
use Rattle.lard_law_connections.specs.Silence.{HasSpoken}
use Rattle.lard_law_connections.proofs.SilenceTurns.{IsKept}
use Rattle.lard_endpoint.proofs.Ends.{emit-falls}
use Rattle.lard_endpoint.proofs.Sound.{after_emit-sound, after_timer-sound, on_segment-sound}
use Rattle.lard_rules.proofs.Endpoints.{consuming-sound, listening-sound}
use Rattle.lard_rules.proofs.Loops.{speaks_keep}
use Rattle.lard_rules.proofs.Endings.{answered-keeps, at-fin-keeps}
use Rattle.lard_rules.proofs.Hearing.{emit-keeps, segment-keeps, timer-keeps}

-- ---- windows

room-wide : (u g : ℕ) → u ≤ g → u ≤ 16384 → g ≤ 2 ^ 30 → 16384 ≤ min (16384 - u) (2 ^ 30 - g) + g
room-wide u g within buffered received = omega arith

-- the window of a sound endpoint ends no sooner than the first one
pub window-wide : (b : ControlBlock) → IsControlBlock b → 16384 ≤ rcv_wnd b + b.recv.got
window-wide b h = room-wide (length b.recv.unread) b.recv.got h.received.within h.received.buffered h.received.received

-- and so does the one that it told last
abbrev pub IsTelling : ControlBlock → Type 0
IsTelling b = 16384 ≤ b.last_window + b.recv.got

abbrev pub IsTurning : ControlBlock → Type 0
IsTurning b = IsControlBlock b × IsTelling b

-- ---- a segment that comes leaves the last window as it was, and takes nothing back

abbrev Onward : ControlBlock → ControlBlock → Type 0
Onward b d = (d.last_window ≡ b.last_window) × (b.recv.got ≤ d.recv.got)

got-arrived : (r : Received) (seq : ℕ) (bytes : List ℕ) (fin : Bool) → r.got ≤ (arrived r seq bytes fin).got
got-arrived r seq bytes fin =
    let more : Received = bytes_taken r (fresh_bytes r seq bytes) (ends r seq bytes fin) in
    cond_both (begins_after seq (awaited r)) r (cond r.fin r more) (λ (z : Received). r.got ≤ z.got) (λ t. omega arith) (λ t. cond_both r.fin r more (λ (z : Received). r.got ≤ z.got) (λ u. omega arith) (λ u. omega arith))

heard-onward : (b : ControlBlock) (s : Said) → Onward b (on_segment b s).1
heard-onward b s = segment-keeps b s (Onward b) (record {
  rests = λ owed. (refl, omega arith);
  resets = λ t. (refl, omega arith);
  acks = λ owed c. (refl, omega arith);
  comes = λ c some. (refl, got-arrived b.recv s.seq s.payload s.flags.fin);
})

pub heard-turns : (b : ControlBlock) (s : Said) → IsTurning b → IsTurning (on_segment b s).1
heard-turns b s h = let on = heard-onward b s in (on_segment-sound b s h.0, omega (arith, on.0, on.1, h.1))

-- ---- what goes out tells the window

pub emit-turns : (b : ControlBlock) → IsTurning b → IsTurning (after_emit b)
emit-turns b h = (after_emit-sound b h.0, emit-keeps IsTelling b h.1 h.1 (window-wide b h.0))

pub timer-turns : (b : ControlBlock) → IsTurning b → IsTurning (after_timer b)
timer-turns b h = (after_timer-sound b h.0, timer-keeps IsTelling b h.1 h.1 (window-wide b h.0))

-- ---- so many segments suffice

falls : (b : ControlBlock) (r : Ready) → IsControlBlock b → emitted b ≡ Some r → emits_left (after_emit b) < emits_left b
falls b r h e = subst (λ (o : Option Ready). OnSome o (emits_left (after_emit b) < emits_left b)) e (emit-falls b (after_emit b) (emitted b) h refl refl)

emits-rest : (c n : ℕ) (b : ControlBlock) → IsControlBlock b → emits_left b ≤ n → emitted (emits c n b).1 ≡ None
unfolding emits
emits-rest c zero b h less = go (emitted b) refl where
  go : (o : Option Ready) → emitted b ≡ o → emitted b ≡ None
  go None e = e
  go (Some r) e = absurd (omega (arith, falls b r h e, less))
emits-rest c (suc n) b h less = go (emitted b) refl (emits-rest c n (after_emit b)) where
  go : (o : Option Ready) → emitted b ≡ o → (IsControlBlock (after_emit b) → emits_left (after_emit b) ≤ n → emitted (emits c n (after_emit b)).1 ≡ None)
      → emitted (elim o as (λ t. List (Place × List ℕ) × ControlBlock) [
        | None ↦ ([], b)
        | Some r ↦ (to_client c (after_emit b) r ∷ (emits c n (after_emit b)).0, (emits c n (after_emit b)).1)
      ]).1 ≡ None
  go None e later = e
  go (Some r) e later = later (after_emit-sound b h) (omega (arith, falls b r h e, less))

-- an endpoint that spoke says nothing more
pub spoke : (c : ℕ) (b : ControlBlock) → IsTurning b → may_end (speaks c b).1 ≡ false → HasSpoken (speaks c b).1
spoke c b h stays =
    let k : IsTurning (speaks c b).1 = speaks_keep c (λ (b : ControlBlock) ss d. IsTurning b → IsTurning d) (record { rests = λ b h. h; says = λ b r ss d e later h. later (emit-turns b h) }) b h in
    record { sound = k.0; stays = stays; not_reset = (or_parts (speaks c b).1.reset (is_closed (speaks c b).1) stays).0; none = emits-rest c (emits_left b) b h.0 (omega arith); told = k.1 }

-- ---- serving

answered-tells : (env : ServeEnv) (via : Via) (v : Verdict) (w : Service) → IsTelling w.block → IsTelling (answered env via v w).block
answered-tells env via v w h =
    let bytes = answer env.files v in
    let more = queueing w.block bytes in
    answered-keeps (λ (z : Service). IsTelling z.block) env via v w (λ t. h)
    (λ t. cond_both (closes v) (finishing (discarding_on more)) more IsTelling (λ u. h) (λ u. h))

ended-tells : (w : Service) → IsTelling w.block → IsTelling (ended_at_fin w).block
ended-tells w h = at-fin-keeps (λ (z : Service). IsTelling z.block) w (λ t. h) (λ t. h)

serving-turns : (env : ServeEnv) → env.stream ≤ 2 ^ 30 → KeptByServing env (λ (w : Service). IsTurning w.block)
serving-turns env small = record {
  notes = λ w rs starts h. h;
  reads = λ w n h. (consuming-sound w.block n h.0, h.1);
  ends = λ w h. (ended-sound w h.0, ended-tells w h.1);
  answers = λ w way v may h. (answered-sound env way v w small (reads-unfinished w may) h.0, answered-tells env way v w h.1);
}

-- ---- the law of an endpoint

-- nothing is asked of segments
abbrev pub Anything : Said → Type 0
Anything s = Unit {0}

abbrev pub AnyReply : ControlBlock → Said → Type 0
AnyReply b s = Unit {0}

pub turning : (b : ControlBlock) → HasSpoken b → IsTurning b
turning b h = (h.sound, h.told)

pub endpoint-law : (env : ServeEnv) → env.stream ≤ 2 ^ 30 → IsKept env IsTurning HasSpoken Anything AnyReply
endpoint-law env small = record {
  begins = turning;
  hears = λ b s h word. heard-turns b s (turning b h);
  fires = λ b h. timer-turns b (turning b h);
  again = λ b r h e. tt;
  emits = emit-turns;
  says = λ b r h e. tt;
  later = λ b s h r. tt;
  cuts = λ b h. tt;
  serves = serving-turns env small;
  rests = spoke env.c;
}

-- ---- how one begins

pub listening-turns : (syn : Said) (iss : ℕ) → IsTurning (listening syn iss)
listening-turns syn iss = (listening-sound syn iss, omega arith)

pub adopted-turns : (p : EndpointParts) → IsValidParts p → IsTurning (adopted p)
adopted-turns p v =
    let some = v.syn_acknowledged in
    let most = v.acknowledged in (
      record {
        received = record { received = v.received; buffered = v.buffered; within = v.within; dropped = λ no. absurd (let not : false ≡ true = no in cc) };
        sending = record { sent = omega arith; queued = omega (arith, some); kept = omega arith; most = omega (arith, most); some_mss = v.some_mss; small_mss = v.small_mss };
        same_irs = refl;
      },
      omega arith,
    )
