-- What a segment leaves of an endpoint, wherever it is dropped; and which segment resets it.
use Rattle.std.proofs.Common.{◌≡◌, ℕ, ◌+◌, ◌-◌, ◌<◌, ◌≤◌, Bool, true, false, nat_lt, ◌==◌, not, ◌&&◌, ◌||◌, List, length, ◌⊎◌, inl, inr, arith, ap, ◌∙◌, refl, drop}
use Rattle.std.specs.Prelude.{if◌then◌else◌}
use Rattle.std.proofs.lemmas.Bool.{cond_both, and_parts, and_from, eqb-true, eq-eqb, ltb-true}
use Rattle.std.proofs.lemmas.Bool.Decides.{nat_tests}
use Rattle.lard_law_view.specs.Prelude.{Arrival, ControlBlock, IsControlBlock, Received, Said, Sending, after_ack, arrived, awaited, bare, begins_after, bytes_taken, ends, fresh_bytes, is_acceptable, is_allowed, is_clear, is_in_window, is_newer, last_number, may_freeze, moved_up, on_ack, on_acked, on_segment, on_syn, on_text, on_unacceptable, one_if, owing, rcv_nxt, rcv_wnd, seg_len, seq_offset, symbols, windowed}
use Rattle.lard_endpoint.specs.declared.control.arriving.Arrival.TheVariants.{Fine, AckOwed, Reset}

-- ---- the sending half: what is acknowledged grows, and what is queued stays
pub record GoesOn (s t : Sending) : Type 0 where
  pub iss : t.iss ≡ s.iss
  pub una : s.una ≤ t.una
  pub total : t.total ≡ s.total
  pub finished : t.finished ≡ s.finished

pub goes-same : (s : Sending) → GoesOn s s
goes-same s = record { iss = refl; una = omega arith; total = refl; finished = refl }

pub goes-then : (s t u : Sending) → GoesOn s t → GoesOn t u → GoesOn s u
goes-then s t u g h = let a = g.una in let b = h.una in record { iss = h.iss ∙ g.iss; una = omega arith; total = h.total ∙ g.total; finished = h.finished ∙ g.finished }

ack-goes : (s : Sending) (ack seq wnd : ℕ) → GoesOn s (after_ack s ack seq wnd)
ack-goes s ack seq wnd =
    let offset = seq_offset ack s.iss in
    let moved = moved_up s offset in
    let up : GoesOn s moved = cond_both (nat_lt s.una offset) (record s { una = offset; rest = drop ((offset - 1) - (s.una - 1)) s.rest }) s (GoesOn s)
    (λ b. let more : s.una < offset = ltb-true s.una offset b in record { iss = refl; una = omega arith; total = refl; finished = refl }) (λ b. goes-same s) in
    let last = windowed moved (s.una == 0) seq ack wnd in
    cond_both (nat_lt s.nxt offset) s (if (s.una == 0) && (offset == 0) then s else last) (GoesOn s) (λ b. goes-same s)
    (λ b. cond_both ((s.una == 0) && (offset == 0)) s last (GoesOn s) (λ d. goes-same s)
    (λ d. cond_both ((s.una == 0) || is_newer moved seq ack) (record moved { wnd = wnd; wl1 = seq; wl2 = ack }) moved (GoesOn s)
    (λ e. record { iss = up.iss; una = up.una; total = up.total; finished = up.finished }) (λ e. up)))

-- ---- what a segment leaves: where anything of it is taken an ACK is owed
pub record Hears (b : ControlBlock) (reset : Bool) (d : ControlBlock) : Type 0 where
  pub send : GoesOn b.send d.send
  pub discarding : d.recv.discarding ≡ b.recv.discarding
  pub last : d.last_window ≡ b.last_window
  pub reset_is : d.reset ≡ reset
  pub taken_in : (d.recv ≡ b.recv) ⊎ (d.owed ≡ true)

abbrev Leaves : ControlBlock → Bool → Arrival × ControlBlock → Type 0
Leaves b x p = Hears b x p.1

either : (b : ControlBlock) (x t : Bool) (p q : Arrival × ControlBlock) → Leaves b x p → Leaves b x q → Leaves b x (if t then p else q)
either b x true p q h k = h
either b x false p q h k = k

owing-hears : (b c : ControlBlock) (x : Bool) → Hears b x c → Hears b x (owing c)
owing-hears b c x h = record { send = h.send; discarding = h.discarding; last = h.last; reset_is = h.reset_is; taken_in = inr refl }

arrived-discarding : (r : Received) (seq : ℕ) (data_ : List ℕ) (fin : Bool) → (arrived r seq data_ fin).discarding ≡ r.discarding
arrived-discarding r seq data_ fin = cond_both (begins_after seq (awaited r)) r _ (λ t. t.discarding ≡ r.discarding) (λ b. refl)
    (λ b. cond_both r.fin r (bytes_taken r (fresh_bytes r seq data_) (ends r seq data_ fin)) (λ t. t.discarding ≡ r.discarding) (λ f. refl) (λ f. refl))

on_acked-hears : (b c : ControlBlock) (x : Bool) (s : Said) → Hears b x c → Leaves b x (on_acked c s)
on_acked-hears b c x s h =
    let recv = arrived c.recv s.seq s.payload s.flags.fin in
    either b x (c.send.una == 0) (Fine, c) (on_text c s) h
    (either b x (length s.payload == 0 && not s.flags.fin) (Fine, c) (AckOwed, record c { recv = recv; owed = true }) h
    (record { send = h.send; discarding = arrived-discarding c.recv s.seq s.payload s.flags.fin ∙ h.discarding; last = h.last; reset_is = h.reset_is; taken_in = inr refl }))

on_ack-hears : (b c : ControlBlock) (x : Bool) (s : Said) → Hears b x c → Leaves b x (on_ack c s)
on_ack-hears b c x s h =
    let send = after_ack c.send s.ack s.seq s.wnd in
    let acked : ControlBlock = record c { send = send } in
    let beyond = nat_lt c.send.nxt (seq_offset s.ack c.send.iss) in
    either b x (not s.flags.ack) (Fine, c) (if beyond then (AckOwed, owing c) else on_acked acked s) h
    (either b x beyond (AckOwed, owing c) (on_acked acked s) (owing-hears b c x h)
    (on_acked-hears b acked x s (record { send = goes-then b.send c.send send h.send (ack-goes c.send s.ack s.seq s.wnd); discarding = h.discarding; last = h.last; reset_is = h.reset_is; taken_in = h.taken_in })))

on_syn-hears : (b c : ControlBlock) (x : Bool) (s : Said) → Hears b x c → Leaves b x (on_syn c s)
on_syn-hears b c x s h = either b x s.flags.syn (AckOwed, owing c) (on_ack c s) (owing-hears b c x h) (on_ack-hears b c x s h)

nothing-hears : (b : ControlBlock) → b.reset ≡ false → Hears b false b
nothing-hears b e = record { send = goes-same b.send; discarding = refl; last = refl; reset_is = e; taken_in = inl refl }

unacceptable-hears : (b : ControlBlock) (s : Said) → b.reset ≡ false → Leaves b false (on_unacceptable b s)
unacceptable-hears b s e =
    let h = nothing-hears b e in
    let o = owing-hears b b false h in
    let dropped : Arrival × ControlBlock = if s.flags.rst then (Fine, b) else (AckOwed, owing b) in
    either b false (is_allowed (rcv_nxt b) (rcv_wnd b) s) (AckOwed, (on_ack (owing b) (bare s)).1) dropped (on_ack-hears b (owing b) false (bare s) o)
    (either b false s.flags.rst (Fine, b) (AckOwed, owing b) h o)

-- what resets an endpoint: an acceptable RST at RCV.NXT
abbrev pub is_reset : ControlBlock → Said → Bool
is_reset b s = is_acceptable (rcv_nxt b) (rcv_wnd b) s && (s.flags.rst && (s.seq == rcv_nxt b))

pub segment-hears : (b : ControlBlock) (s : Said) → b.reset ≡ false → Hears b (is_reset b s) (on_segment b s).1
segment-hears b s e = go (is_acceptable (rcv_nxt b) (rcv_wnd b) s) s.flags.rst (s.seq == rcv_nxt b) where
  go : (acc rst hit : Bool) → Leaves b (acc && (rst && hit)) (if acc then (if not rst then on_syn b s else if hit then (Reset, record b { reset = true }) else (AckOwed, owing b)) else on_unacceptable b s)
  go true true true = record { send = goes-same b.send; discarding = refl; last = refl; reset_is = refl; taken_in = inl refl }
  go true true false = owing-hears b b false (nothing-hears b e)
  go true false hit = on_syn-hears b b false s (nothing-hears b e)
  go false rst hit = unacceptable-hears b s e

-- ---- which that is: at RCV.NXT a segment is acceptable where it has no length, or the window is open
at_next : (len wnd seq nxt off : ℕ) (x : Bool) → seq ≡ nxt → off ≡ 0
    → (if len == 0 then (if wnd == 0 then seq == nxt else nat_lt off wnd) else (if wnd == 0 then false else (nat_lt off wnd || x))) ≡ ((len == 0) || nat_lt 0 wnd)
at_next len wnd seq nxt off x e o = grind (arith, nat_tests)

reset-test : (acc rst hit fits : Bool) → (hit ≡ true → acc ≡ fits) → (acc && (rst && hit)) ≡ (rst && (hit && fits))
reset-test acc true true fits h = go acc fits (h refl) where
  go : (a f : Bool) → a ≡ f → (a && true) ≡ f
  go true f e = e
  go false f e = e
reset-test true true false fits h = refl
reset-test false true false fits h = refl
reset-test true false hit fits h = refl
reset-test false false hit fits h = refl

pub is_reset-is : (b : ControlBlock) (s : Said) → is_reset b s ≡ (s.flags.rst && ((s.seq == rcv_nxt b) && ((seg_len s == 0) || nat_lt 0 (rcv_wnd b))))
is_reset-is b s = reset-test (is_acceptable (rcv_nxt b) (rcv_wnd b) s) s.flags.rst (s.seq == rcv_nxt b) ((seg_len s == 0) || nat_lt 0 (rcv_wnd b))
    (λ h. let e : s.seq ≡ rcv_nxt b = eqb-true s.seq (rcv_nxt b) h in
    let zero : seq_offset s.seq (rcv_nxt b) ≡ 0 = ap (λ n. seq_offset n (rcv_nxt b)) e ∙ same (rcv_nxt b) in
    at_next (seg_len s) (rcv_wnd b) s.seq (rcv_nxt b) (seq_offset s.seq (rcv_nxt b)) (is_in_window (rcv_nxt b) (rcv_wnd b) (last_number s)) e zero)
  where
    same : (n : ℕ) → seq_offset n n ≡ 0
    same n = omega arith

-- ---- an endpoint that may be frozen may still be, whatever comes but a reset
pub freezes-still : (b d : ControlBlock) → IsControlBlock d → GoesOn b.send d.send → d.recv.discarding ≡ b.recv.discarding → d.reset ≡ false → may_freeze b ≡ true → may_freeze d ≡ true
freezes-still b d h g e r f =
    let parts = and_parts (is_clear b.send && not b.send.finished) (not b.recv.discarding && not b.reset) f in
    let sends = and_parts (is_clear b.send) (not b.send.finished) parts.0 in
    let takes = and_parts (not b.recv.discarding) (not b.reset) parts.1 in
    let clear : b.send.una ≡ symbols b.send = eqb-true b.send.una (symbols b.send) sends.0 in
    let same : symbols d.send ≡ symbols b.send = λ i. 1 + g.total i + one_if (g.finished i) in
    let up = g.una in
    let sent = h.sending.sent in
    let queued : d.send.nxt ≤ symbols d.send = h.sending.queued in
    let all : d.send.una ≡ symbols d.send = omega (arith, same, clear) in
    and_from (is_clear d.send && not d.send.finished) (not d.recv.discarding && not d.reset)
    (and_from (is_clear d.send) (not d.send.finished) (eq-eqb d.send.una (symbols d.send) all) (ap not g.finished ∙ sends.1))
    (and_from (not d.recv.discarding) (not d.reset) (ap not e ∙ takes.0) (ap not r))
