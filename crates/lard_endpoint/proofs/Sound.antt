-- What holds of every endpoint stays so over each rule.
use Rattle.std.proofs.Common.{◌≡◌, ℕ, ◌+◌, ◌-◌, ◌^◌, ◌<◌, ◌≤◌, max, Bool, true, false, nat_lt, ◌==◌, not, ◌&&◌, ◌||◌, List, ◌++◌, length, drop, arith, length-append, length-drop, sym, ap, ◌∙◌, refl}
use Rattle.std.proofs.lemmas.Bool.{cond_both, cond-true, ltb-true, ltb-false, eqb-true, eqb-false, and_parts, not-true}
use Rattle.std.specs.Prelude.{if◌then◌else◌, Option, Some, None}
use Rattle.lard_recv.specs.Recv.{Received, IsReceived, receive_room, begins_after, awaited, fresh_bytes, ends, bytes_taken, arrived}
use Rattle.lard_recv.proofs.Window.{arrived-irs, fresh-fits}
use Rattle.lard_send.proofs.Sent.{after_ack-irs}
use Rattle.lard_send.specs.Send.{Sending, IsSending, symbols, is_newer, moved_up, windowed, after_ack, send_left, may_send, unsent_bytes, next_len, next_fin, next_piece, after_next, resent_piece, after_resend, queued_too}
use Rattle.lard_send.specs.declared.piece.Piece.{Piece}
use Rattle.lard_endpoint.specs.declared.control.arriving.Arrival.{Arrival}
use Rattle.lard_endpoint.specs.declared.control.arriving.Arrival.TheVariants.{Fine, AckOwed, Reset}
use Rattle.lard_seq.specs.Seq.{one_if, seq_offset}
use Rattle.lard_segment.specs.Segment.{Said}
use Rattle.lard_arrival.specs.Arrival.{bare, is_acceptable, is_allowed}
use Rattle.lard_endpoint.specs.Arriving.{owing, on_text, on_acked, on_ack, on_syn, on_rst, on_unacceptable, on_segment}
use Rattle.lard_endpoint.specs.Control.{ControlBlock, IsControlBlock, rcv_nxt, rcv_wnd, queueing}
use Rattle.lard_endpoint.specs.Leaving.{told, owes, after_owed, after_piece, advanced, retried, after_emit, after_timer}

-- ---- the receiving half
taken-sound : (r : Received) (bytes : List ℕ) (fin : Bool) → length bytes ≤ receive_room r → IsReceived r → IsReceived (bytes_taken r bytes fin)
taken-sound r bytes fin le h =
    let size = length-append r.unread bytes in
    record {
      received = omega arith;
      buffered = cond_both r.discarding r.unread (r.unread ++ bytes) (λ u. length u ≤ 16384) (λ d. h.buffered) (λ d. omega arith);
      within = cond_both r.discarding r.unread (r.unread ++ bytes) (λ u. length u ≤ r.got + length bytes) (λ d. let w = h.within in omega arith) (λ d. let w = h.within in omega arith);
      dropped = λ d. let same : (if r.discarding then r.unread else r.unread ++ bytes) ≡ r.unread = cond-true r.discarding r.unread (r.unread ++ bytes) d in omega (arith, ap length same, h.dropped d);
    }

pub arrived-sound : (r : Received) (seq : ℕ) (data_ : List ℕ) (fin : Bool) → IsReceived r → IsReceived (arrived r seq data_ fin)
arrived-sound r seq data_ fin h =
    let least = fresh-fits r seq data_ in
    cond_both (begins_after seq (awaited r)) r _ IsReceived (λ b. h)
    (λ b. cond_both r.fin r (bytes_taken r (fresh_bytes r seq data_) (ends r seq data_ fin)) IsReceived (λ f. h) (λ f. taken-sound r (fresh_bytes r seq data_) (ends r seq data_ fin) least h))

-- ---- the sending half
moved_up-sound : (s : Sending) (offset : ℕ) → offset ≤ s.nxt → IsSending s → IsSending (moved_up s offset)
moved_up-sound s offset le h =
    let k = (offset - 1) - (s.una - 1) in
    let size = length-drop k s.rest in
    cond_both (nat_lt s.una offset) (record s { una = offset; rest = drop k s.rest }) s IsSending
    (λ t. let more : s.una < offset = ltb-true s.una offset t in
    let kept = h.kept in
    record { sent = le; queued = h.queued; kept = omega arith; most = h.most; some_mss = h.some_mss; small_mss = h.small_mss })
    (λ f. h)

windowed-sound : (s : Sending) (opened : Bool) (seq ack wnd : ℕ) → IsSending s → IsSending (windowed s opened seq ack wnd)
windowed-sound s opened seq ack wnd h =
    cond_both (opened || is_newer s seq ack) (record s { wnd = wnd; wl1 = seq; wl2 = ack }) s IsSending
    (λ t. record { sent = h.sent; queued = h.queued; kept = h.kept; most = h.most; some_mss = h.some_mss; small_mss = h.small_mss })
    (λ f. h)

pub after_ack-sound : (s : Sending) (ack seq wnd : ℕ) → IsSending s → IsSending (after_ack s ack seq wnd)
after_ack-sound s ack seq wnd h =
    let offset = seq_offset ack s.iss in
    let last = windowed (moved_up s offset) (s.una == 0) seq ack wnd in
    cond_both (nat_lt s.nxt offset) s (if (s.una == 0) && (offset == 0) then s else last) IsSending (λ t. h)
    (λ f. cond_both ((s.una == 0) && (offset == 0)) s last IsSending (λ t. h)
    (λ g. windowed-sound (moved_up s offset) (s.una == 0) seq ack wnd (moved_up-sound s offset (ltb-false s.nxt offset f) h)))

-- NXT moves
nxt-sound : (s : Sending) (nxt : ℕ) → s.una ≤ nxt → nxt ≤ symbols s → IsSending s → IsSending (record s { nxt = nxt })
nxt-sound s nxt a b h = record { sent = a; queued = b; kept = h.kept; most = h.most; some_mss = h.some_mss; small_mss = h.small_mss }

-- what is sent next is queued
next-within : (s : Sending) (b : Bool) → IsSending s → may_send s ≡ true → next_fin s ≡ b → s.nxt + next_len s + one_if b ≤ symbols s
next-within s true h m e =
    let ends = and_parts s.finished ((next_len s == unsent_bytes s) && nat_lt (next_len s) (send_left s)) e in
    let one : one_if s.finished ≡ 1 = ap one_if ends.0 in
    let all : next_len s ≡ unsent_bytes s = eqb-true (next_len s) (unsent_bytes s) (and_parts (next_len s == unsent_bytes s) (nat_lt (next_len s) (send_left s)) ends.1).0 in
    let may = and_parts (not (s.una == 0)) (nat_lt s.nxt (symbols s) && nat_lt 0 (send_left s)) m in
    let some : s.nxt < symbols s = ltb-true s.nxt (symbols s) (and_parts (nat_lt s.nxt (symbols s)) (nat_lt 0 (send_left s)) may.1).0 in
    let begun : s.una ≡ 0 → ⊥ = eqb-false s.una 0 (not-true (s.una == 0) may.0) in
    omega arith
next-within s false h m e = omega arith

pub after_next-sound : (s : Sending) → IsSending s → IsSending (after_next s)
after_next-sound s h =
    let nxt = s.nxt + next_len s + one_if (next_fin s) in
    cond_both (s.nxt == 0) (record s { nxt = 1 }) (if may_send s then record s { nxt = nxt } else s) IsSending
    (λ t. let zero : s.nxt ≡ 0 = eqb-true s.nxt 0 t in nxt-sound s 1 (omega arith) (omega arith) h)
    (λ f. cond_both (may_send s) (record s { nxt = nxt }) s IsSending
    (λ m. nxt-sound s nxt (omega arith) (next-within s (next_fin s) h m refl) h) (λ m. h))

pub after_resend-sound : (s : Sending) → IsSending s → IsSending (after_resend s)
after_resend-sound s h =
    cond_both (s.una == 0) (record s { nxt = max s.nxt 1 }) _ IsSending
    (λ t. nxt-sound s (max s.nxt 1) (omega arith) (omega arith) h)
    (λ f. cond_both (nat_lt s.una s.nxt) s (if nat_lt s.nxt (symbols s) then record s { nxt = s.nxt + 1 } else s) IsSending (λ t. h)
    (λ g. cond_both (nat_lt s.nxt (symbols s)) (record s { nxt = s.nxt + 1 }) s IsSending
    (λ t. let room : s.nxt < symbols s = ltb-true s.nxt (symbols s) t in nxt-sound s (s.nxt + 1) (omega arith) (omega arith) h) (λ k. h)))

pub queued-sound : (s : Sending) (bytes : List ℕ) → s.finished ≡ false → s.total + length bytes ≤ 2 ^ 30 → IsSending s → IsSending (queued_too s bytes)
queued-sound s bytes f le h =
    let size = length-append s.rest bytes in
    let none : one_if s.finished ≡ 0 = ap one_if f in
    let kept = h.kept in
    let sent = h.sent in
    let queued : s.nxt ≤ symbols s = h.queued in
    record { sent = h.sent; queued = omega arith; kept = omega arith; most = le; some_mss = h.some_mss; small_mss = h.small_mss }

-- ---- both halves
recv-sound : (c : ControlBlock) (recv : Received) → recv.irs ≡ c.recv.irs → IsReceived recv → IsControlBlock c → IsControlBlock (record c { recv = recv })
recv-sound c recv e r h = record { received = r; sending = h.sending; same_irs = h.same_irs ∙ sym e }

send-sound : (c : ControlBlock) (send : Sending) → send.irs ≡ c.send.irs → IsSending send → IsControlBlock c → IsControlBlock (record c { send = send })
send-sound c send e s h = record { received = h.received; sending = s; same_irs = e ∙ h.same_irs }

-- the halves alone decide
flags-sound : (c : ControlBlock) (owed reset : Bool) (last_window : ℕ) → IsControlBlock c → IsControlBlock (record c { owed = owed; last_window = last_window; reset = reset })
flags-sound c owed reset last_window h = record { received = h.received; sending = h.sending; same_irs = h.same_irs }

-- neither rule moves the first number
after_next-irs : (s : Sending) → (after_next s).irs ≡ s.irs
after_next-irs s =
    let nxt = s.nxt + next_len s + one_if (next_fin s) in
    cond_both (s.nxt == 0) (record s { nxt = 1 }) (if may_send s then record s { nxt = nxt } else s) (λ t. t.irs ≡ s.irs) (λ b. refl)
    (λ b. cond_both (may_send s) (record s { nxt = nxt }) s (λ t. t.irs ≡ s.irs) (λ m. refl) (λ m. refl))

after_resend-irs : (s : Sending) → (after_resend s).irs ≡ s.irs
after_resend-irs s =
    let last : Sending = if nat_lt s.nxt (symbols s) then record s { nxt = s.nxt + 1 } else s in
    cond_both (s.una == 0) (record s { nxt = max s.nxt 1 }) (if nat_lt s.una s.nxt then s else last) (λ t. t.irs ≡ s.irs) (λ b. refl)
    (λ b. cond_both (nat_lt s.una s.nxt) s last (λ t. t.irs ≡ s.irs) (λ d. refl)
    (λ d. cond_both (nat_lt s.nxt (symbols s)) (record s { nxt = s.nxt + 1 }) s (λ t. t.irs ≡ s.irs) (λ e. refl) (λ e. refl)))

-- ---- a segment arrives
abbrev Kept : Arrival × ControlBlock → Type 0
Kept p = IsControlBlock p.1

either : (b : Bool) (x y : Arrival × ControlBlock) → Kept x → Kept y → Kept (if b then x else y)
either true x y h k = h
either false x y h k = k

owing-sound : (c : ControlBlock) → IsControlBlock c → IsControlBlock (owing c)
owing-sound c h = flags-sound c true c.reset c.last_window h

on_acked-sound : (c : ControlBlock) (s : Said) → IsControlBlock c → Kept (on_acked c s)
on_acked-sound c s h =
    let recv = arrived c.recv s.seq s.payload s.flags.fin in
    let kept : IsControlBlock (record c { recv = recv }) = recv-sound c recv (arrived-irs c.recv s.seq s.payload s.flags.fin) (arrived-sound c.recv s.seq s.payload s.flags.fin h.received) h in
    either (c.send.una == 0) (Fine, c) (on_text c s) h
    (either (length s.payload == 0 && not s.flags.fin) (Fine, c) (AckOwed, record c { recv = recv; owed = true }) h
    (flags-sound (record c { recv = recv }) true c.reset c.last_window kept))

on_ack-sound : (c : ControlBlock) (s : Said) → IsControlBlock c → Kept (on_ack c s)
on_ack-sound c s h =
    let send = after_ack c.send s.ack s.seq s.wnd in
    let acked : ControlBlock = record c { send = send } in
    let beyond = nat_lt c.send.nxt (seq_offset s.ack c.send.iss) in
    either (not s.flags.ack) (Fine, c) (if beyond then (AckOwed, owing c) else on_acked acked s) h
    (either beyond (AckOwed, owing c) (on_acked acked s) (owing-sound c h)
    (on_acked-sound acked s (send-sound c send (after_ack-irs c.send s.ack s.seq s.wnd) (after_ack-sound c.send s.ack s.seq s.wnd h.sending) h)))

on_rst-sound : (c : ControlBlock) (s : Said) → IsControlBlock c → Kept (on_rst c s)
on_rst-sound c s h =
    let reset : Arrival × ControlBlock = if s.seq == rcv_nxt c then (Reset, record c { reset = true }) else (AckOwed, owing c) in
    either (not s.flags.rst) (on_syn c s) reset
    (either s.flags.syn (AckOwed, owing c) (on_ack c s) (owing-sound c h) (on_ack-sound c s h))
    (either (s.seq == rcv_nxt c) (Reset, record c { reset = true }) (AckOwed, owing c) (flags-sound c c.owed true c.last_window h) (owing-sound c h))

on_unacceptable-sound : (c : ControlBlock) (s : Said) → IsControlBlock c → Kept (on_unacceptable c s)
on_unacceptable-sound c s h =
    let dropped : Arrival × ControlBlock = if s.flags.rst then (Fine, c) else (AckOwed, owing c) in
    either (is_allowed (rcv_nxt c) (rcv_wnd c) s) (AckOwed, (on_ack (owing c) (bare s)).1) dropped (on_ack-sound (owing c) (bare s) (owing-sound c h))
    (either s.flags.rst (Fine, c) (AckOwed, owing c) h (owing-sound c h))

pub on_segment-sound : (c : ControlBlock) (s : Said) → IsControlBlock c → IsControlBlock (on_segment c s).1
on_segment-sound c s h = either (is_acceptable (rcv_nxt c) (rcv_wnd c) s) (on_rst c s) (on_unacceptable c s) (on_rst-sound c s h) (on_unacceptable-sound c s h)

-- ---- a segment leaves
told-sound : (c : ControlBlock) → IsControlBlock c → IsControlBlock (told c)
told-sound c h = flags-sound c false c.reset (rcv_wnd c) h

piece-sound : (c other : ControlBlock) (p : Option Piece) → IsControlBlock c → IsControlBlock other → IsControlBlock (after_piece c p other)
piece-sound c other (Some p) h k = told-sound c h
piece-sound c other None h k = k

either_block : (b : Bool) (x y : ControlBlock) → IsControlBlock x → IsControlBlock y → IsControlBlock (if b then x else y)
either_block true x y h k = h
either_block false x y h k = k

pub after_emit-sound : (c : ControlBlock) → IsControlBlock c → IsControlBlock (after_emit c)
after_emit-sound c h =
    let sent = send-sound c (after_next c.send) (after_next-irs c.send) (after_next-sound c.send h.sending) h in
    let owed = either_block (owes (advanced c)) (told (advanced c)) (advanced c) (told-sound (advanced c) sent) sent in
    either_block c.reset c (after_piece (advanced c) (next_piece c.send) (after_owed (advanced c))) h
    (piece-sound (advanced c) (after_owed (advanced c)) (next_piece c.send) sent owed)

pub after_timer-sound : (c : ControlBlock) → IsControlBlock c → IsControlBlock (after_timer c)
after_timer-sound c h =
    let sent = send-sound c (after_resend c.send) (after_resend-irs c.send) (after_resend-sound c.send h.sending) h in
    either_block c.reset c (after_piece (retried c) (resent_piece c.send) (retried c)) h
    (piece-sound (retried c) (retried c) (resent_piece c.send) sent sent)

pub queueing-sound : (c : ControlBlock) (bytes : List ℕ) → c.send.finished ≡ false → c.send.total + length bytes ≤ 2 ^ 30 → IsControlBlock c → IsControlBlock (queueing c bytes)
queueing-sound c bytes f le h = send-sound c (queued_too c.send bytes) refl (queued-sound c.send bytes f le h.sending) h
