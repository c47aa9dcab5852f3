-- What segments, and what is said, leave of the receiving half of an endpoint.
use Rattle.std.proofs.Common.{◌≡◌, ℕ, ◌+◌, ◌≤◌, ◌==◌, nat_lt, not, ◌&&◌, Bool, true, cond, List, ◌++◌, length, length-append, Option, Some, None, refl, ◌∙◌, arith}
use Rattle.std.proofs.lemmas.Bool.{cond_both}
use Rattle.lard_arrival.specs.Arrival.{bare, is_acceptable, is_allowed}
use Rattle.lard_endpoint.specs.declared.control.arriving.Arrival.{Arrival}
use Rattle.lard_endpoint.specs.declared.control.arriving.Arrival.TheVariants.{Fine, AckOwed, Reset}
use Rattle.lard_endpoint.specs.Arriving.{on_ack, on_acked, on_rst, on_segment, on_syn, on_text, on_unacceptable, owing}
use Rattle.lard_endpoint.specs.Control.{ControlBlock, rcv_nxt, rcv_wnd}
use Rattle.lard_endpoint.specs.Leaving.{advanced, after_emit, after_owed, after_piece, owes, told}
use Rattle.lard_recv.specs.Recv.{Received, arrived, awaited, begins_after, ends, fresh_bytes, bytes_taken}
use Rattle.lard_rules.proofs.Loops.{speaks_keep}
use Rattle.lard_rules.specs.Speaking.{speaks}
use Rattle.lard_segment.specs.Segment.{Said}
use Rattle.lard_send.specs.declared.piece.Piece.{Piece}
use Rattle.lard_send.specs.Send.{after_ack, next_piece}
use Rattle.lard_seq.specs.Seq.{seq_offset}

-- ---- a segment comes

-- no more is unread than came beside what was unread before
abbrev pub Gains : Received → Received → Type 0
Gains r q = length q.unread + r.got ≤ length r.unread + q.got

arrived-gains : (r : Received) (seq : ℕ) (bytes : List ℕ) (fin : Bool) → Gains r (arrived r seq bytes fin)
arrived-gains r seq bytes fin =
    let new : List ℕ = fresh_bytes r seq bytes in
    let all : Received = bytes_taken r new (ends r seq bytes fin) in
    cond_both (begins_after seq (awaited r)) r (cond r.fin r all) (Gains r) (λ t. omega arith) (λ t.
    cond_both r.fin r all (Gains r) (λ u. omega arith) (λ u.
    cond_both r.discarding r.unread (r.unread ++ new) (λ xs. length xs + r.got ≤ length r.unread + (r.got + length new)) (λ v. omega arith) (λ v. omega (arith, length-append r.unread new))))

abbrev pub GainsIn : ControlBlock → Arrival × ControlBlock → Type 0
GainsIn b x = Gains b.recv x.1.recv

still : (b : ControlBlock) → Gains b.recv b.recv
still b = omega arith

acked-gains : (b : ControlBlock) (s : Said) → GainsIn b (on_acked b s)
acked-gains b s =
    let text : Arrival × ControlBlock = (AckOwed, record b { recv = arrived b.recv s.seq s.payload s.flags.fin; owed = true }) in
    cond_both {A = Arrival × ControlBlock} (b.send.una == 0) (Fine, b) (on_text b s) (GainsIn b) (λ t. still b) (λ t.
    cond_both {A = Arrival × ControlBlock} (length s.payload == 0 && not s.flags.fin) (Fine, b) text (GainsIn b) (λ u. still b) (λ u. arrived-gains b.recv s.seq s.payload s.flags.fin))

ack-gains : (b : ControlBlock) (s : Said) → GainsIn b (on_ack b s)
ack-gains b s =
    let sent : ControlBlock = record b { send = after_ack b.send s.ack s.seq s.wnd } in
    let early : Bool = nat_lt b.send.nxt (seq_offset s.ack b.send.iss) in
    cond_both {A = Arrival × ControlBlock} (not s.flags.ack) (Fine, b) (cond early (AckOwed, owing b) (on_acked sent s)) (GainsIn b) (λ t. still b) (λ t.
    cond_both {A = Arrival × ControlBlock} early (AckOwed, owing b) (on_acked sent s) (GainsIn b) (λ u. still b) (λ u. acked-gains sent s))

pub segment-gains : (b : ControlBlock) (s : Said) → GainsIn b (on_segment b s)
segment-gains b s =
    let owed : Arrival × ControlBlock = (AckOwed, owing b) in
    let reset : Arrival × ControlBlock = (Reset, record b { reset = true }) in
    let next : Bool = s.seq == rcv_nxt b in
    cond_both (is_acceptable (rcv_nxt b) (rcv_wnd b) s) (on_rst b s) (on_unacceptable b s) (GainsIn b)
    (λ t. cond_both (not s.flags.rst) (on_syn b s) (cond next reset owed) (GainsIn b)
    (λ u. cond_both s.flags.syn owed (on_ack b s) (GainsIn b) (λ v. still b) (λ v. ack-gains b s))
    (λ u. cond_both next reset owed (GainsIn b) (λ v. still b) (λ v. still b)))
    (λ t. cond_both {A = Arrival × ControlBlock} (is_allowed (rcv_nxt b) (rcv_wnd b) s) (AckOwed, (on_ack (owing b) (bare s)).1) (cond s.flags.rst (Fine, b) owed) (GainsIn b)
    (λ u. ack-gains (owing b) (bare s))
    (λ u. cond_both {A = Arrival × ControlBlock} s.flags.rst (Fine, b) owed (GainsIn b) (λ v. still b) (λ v. still b)))

-- ---- what is said changes nothing of it

abbrev pub SameReceived : ControlBlock → ControlBlock → Type 0
SameReceived b d = d.recv ≡ b.recv

piece-same : (b d e : ControlBlock) (p : Option Piece) → SameReceived b d → SameReceived b e → SameReceived b (after_piece d p e)
piece-same b d e None h k = k
piece-same b d e (Some p) h k = h

emit-same : (b : ControlBlock) → SameReceived b (after_emit b)
emit-same b =
    let next : ControlBlock = advanced b in
    cond_both b.reset b (after_piece next (next_piece b.send) (after_owed next)) (SameReceived b) (λ t. refl) (λ t.
    piece-same b next (after_owed next) (next_piece b.send) refl (cond_both (owes next) (told next) next (SameReceived b) (λ u. refl) (λ u. refl)))

pub speaks-same : (c : ℕ) (b : ControlBlock) → SameReceived b (speaks c b).1
speaks-same c b = speaks_keep c (λ b ss d. SameReceived b d) (record { rests = λ b. refl; says = λ b r ss d e later. later ∙ emit-same b }) b
