-- What is emitted stays in the peer's window, and what is told of the own one is not taken back.
use Rattle.std.proofs.Common.{◌≡◌, ◌+◌, ◌<◌, ◌≤◌, nat_lt, ◌==◌, not, ◌&&◌, Bool, true, false, List, [], ◌∷◌, length, arith, refl, sym, subst}
use Rattle.std.specs.Prelude.{if◌then◌else◌, Option, Some, None, IfSome}
use Rattle.std.proofs.lemmas.Bool.{cond_both}
use Rattle.lard_arrival.specs.Arrival.{bare, is_acceptable, is_allowed}
use Rattle.lard_endpoint.specs.declared.control.arriving.Arrival.{Arrival}
use Rattle.lard_endpoint.specs.declared.control.arriving.Arrival.TheVariants.{Fine, AckOwed, Reset}
use Rattle.lard_endpoint.specs.Arriving.{owing, on_text, on_acked, on_ack, on_syn, on_rst, on_unacceptable, on_segment}
use Rattle.lard_endpoint.specs.Control.{ControlBlock, rcv_nxt, rcv_wnd}
use Rattle.lard_endpoint.specs.Laws.{EndpointCall, Arrives, Queues, Finishes, Reads, Discards, Emits, Fires, called, endpoint_after_calls, TellsTheWindow}
use Rattle.lard_endpoint.specs.Leaving.{piece_ready, ack_ready, told, owes, owed_ready, ready_of, after_piece, advanced, retried, emitted, after_emit, timed, after_timer}
use Rattle.lard_recv.proofs.Window.{end-arrived, end-read}
use Rattle.lard_recv.specs.Recv.{Received, arrived, window_end}
use Rattle.lard_segment.specs.declared.segment.Ready.{Ready}
use Rattle.lard_segment.specs.Segment.{Said}
use Rattle.lard_send.proofs.Firsts.{next-allowed}
use Rattle.lard_send.specs.declared.piece.Piece.{Piece}
use Rattle.lard_send.specs.Send.{Sending, after_ack, next_piece, resent_piece, IsPieceAllowed}
use Rattle.lard_seq.specs.Seq.{one_if, seq_offset}

-- ---- the peer's window
abbrev Stays : Sending → Ready → Type 0
Stays s r = (r.len ≤ s.mss) × (r.flags.syn ≡ false → 0 < r.len + one_if r.flags.fin → (1 + r.at) + r.len + one_if r.flags.fin ≤ s.una + s.wnd)

piece-stays : (c : ControlBlock) (s : Sending) (p : Piece) → IsPieceAllowed s p → Stays s (piece_ready c p)
piece-stays c s p h = (h.small, λ e some. let first = h.first e in let below = h.below e in omega arith)

by_piece : (c d : ControlBlock) (p : Option Piece) (b : Bool) → next_piece c.send ≡ p → IfSome (ready_of d p (if b then Some (ack_ready d) else None)) (Stays c.send)
by_piece c d (Some p) b e = piece-stays d c.send p (next-allowed c.send p e)
by_piece c d None true e = (omega arith, λ f some. absurd (omega (arith, some)))
by_piece c d None false e = tt

pub emitted-allowed : (c : ControlBlock) (r : Ready) → emitted c ≡ Some r → Stays c.send r
emitted-allowed c r e =
    let P : Option Ready → Type 0 = λ o. IfSome o (Stays c.send) in
    subst P e (cond_both c.reset None (ready_of (advanced c) (next_piece c.send) (owed_ready (advanced c))) P (λ t. tt)
    (λ t. by_piece c (advanced c) (next_piece c.send) (owes (advanced c)) refl))

-- ---- what is told
tells : (c d : ControlBlock) (p : Option Piece) (b : Bool) → d.recv ≡ c.recv → IfSome (ready_of d p (if b then Some (ack_ready d) else None)) (TellsTheWindow c)
tells c d (Some p) b e = record { ack = λ i. rcv_nxt (record c { recv = e i }); wnd = λ i. rcv_wnd (record c { recv = e i }); no_rst = refl }
tells c d None true e = record { ack = λ i. rcv_nxt (record c { recv = e i }); wnd = λ i. rcv_wnd (record c { recv = e i }); no_rst = refl }
tells c d None false e = tt

pub emitted-tells : (c : ControlBlock) (r : Ready) → emitted c ≡ Some r → TellsTheWindow c r
emitted-tells c r e =
    let P : Option Ready → Type 0 = λ o. IfSome o (TellsTheWindow c) in
    subst P e (cond_both c.reset None (ready_of (advanced c) (next_piece c.send) (owed_ready (advanced c))) P (λ t. tt)
    (λ t. tells c (advanced c) (next_piece c.send) (owes (advanced c)) refl))

pub timed-tells : (c : ControlBlock) (r : Ready) → timed c ≡ Some r → TellsTheWindow c r
timed-tells c r e =
    let P : Option Ready → Type 0 = λ o. IfSome o (TellsTheWindow c) in
    subst P e (cond_both c.reset None (ready_of (retried c) (resent_piece c.send) None) P (λ t. tt) (λ t. tells c (retried c) (resent_piece c.send) false refl))

-- ---- the own window
-- the receiving half stays, or takes the segment
module _ (P : Received → Type 0) where
  abbrev On : Arrival × ControlBlock → Type 0
  On p = P p.1.recv

  acked : (c : ControlBlock) (s : Said) → P c.recv → P (arrived c.recv s.seq s.payload s.flags.fin) → On (on_acked c s)
  acked c s h k =
      let text : Arrival × ControlBlock = (AckOwed, record c { recv = arrived c.recv s.seq s.payload s.flags.fin; owed = true }) in
      cond_both (c.send.una == 0) (Fine, c) (on_text c s) On (λ t. h)
      (λ t. cond_both (length s.payload == 0 && not s.flags.fin) (Fine, c) text On (λ u. h) (λ u. k))

  ack : (c : ControlBlock) (s : Said) → P c.recv → P (arrived c.recv s.seq s.payload s.flags.fin) → On (on_ack c s)
  ack c s h k =
      let beyond = nat_lt c.send.nxt (seq_offset s.ack c.send.iss) in
      let rest = on_acked (record c { send = after_ack c.send s.ack s.seq s.wnd }) s in
      cond_both (not s.flags.ack) (Fine, c) (if beyond then (AckOwed, owing c) else rest) On (λ t. h)
      (λ t. cond_both beyond (AckOwed, owing c) rest On (λ u. h) (λ u. acked (record c { send = after_ack c.send s.ack s.seq s.wnd }) s h k))

  -- without data and FIN nothing is taken
  bare-ack : (c : ControlBlock) (s : Said) → P c.recv → On (on_ack c (bare s))
  bare-ack c s h =
      let beyond = nat_lt c.send.nxt (seq_offset s.ack c.send.iss) in
      let acked : ControlBlock = record c { send = after_ack c.send s.ack s.seq s.wnd } in
      let rest : Arrival × ControlBlock = if acked.send.una == 0 then (Fine, acked) else (Fine, acked) in
      cond_both (not s.flags.ack) (Fine, c) (if beyond then (AckOwed, owing c) else rest) On (λ t. h)
      (λ t. cond_both beyond (AckOwed, owing c) rest On (λ u. h)
      (λ u. cond_both (acked.send.una == 0) (Fine, acked) (Fine, acked) On (λ v. h) (λ v. h)))

  pub segment-recv : (c : ControlBlock) (s : Said) → P c.recv → P (arrived c.recv s.seq s.payload s.flags.fin) → On (on_segment c s)
  segment-recv c s h k =
      let reset : Arrival × ControlBlock = if s.seq == rcv_nxt c then (Reset, record c { reset = true }) else (AckOwed, owing c) in
      let dropped : Arrival × ControlBlock = if s.flags.rst then (Fine, c) else (AckOwed, owing c) in
      cond_both (is_acceptable (rcv_nxt c) (rcv_wnd c) s) (on_rst c s) (on_unacceptable c s) On
      (λ t. cond_both (not s.flags.rst) (on_syn c s) reset On
      (λ u. cond_both s.flags.syn (AckOwed, owing c) (on_ack c s) On (λ v. h) (λ v. ack c s h k))
      (λ u. cond_both (s.seq == rcv_nxt c) (Reset, record c { reset = true }) (AckOwed, owing c) On (λ v. h) (λ v. h)))
      (λ t. cond_both (is_allowed (rcv_nxt c) (rcv_wnd c) s) (AckOwed, (on_ack (owing c) (bare s)).1) dropped On (λ u. bare-ack (owing c) s h)
      (λ u. cond_both s.flags.rst (Fine, c) (AckOwed, owing c) On (λ v. h) (λ v. h)))

-- sending leaves the receiving half as it was
by_sent : (b o : Bool) (c d : ControlBlock) (p : Option Piece) → d.recv ≡ c.recv → (if b then c else after_piece d p (if o then told d else d)).recv ≡ c.recv
by_sent true o c d p e = refl
by_sent false o c d (Some p) e = e
by_sent false true c d None e = e
by_sent false false c d None e = e

pub emit-recv : (c : ControlBlock) → (after_emit c).recv ≡ c.recv
emit-recv c = by_sent c.reset (owes (advanced c)) c (advanced c) (next_piece c.send) refl

pub timer-recv : (c : ControlBlock) → (after_timer c).recv ≡ c.recv
timer-recv c = by_sent c.reset false c (retried c) (resent_piece c.send) refl

end-called : (c : ControlBlock) (call : EndpointCall) → window_end c.recv ≤ window_end (called c call).recv
end-called c (Arrives s) = segment-recv (λ r. window_end c.recv ≤ window_end r) c s (omega arith) (end-arrived c.recv s.seq s.payload s.flags.fin)
end-called c (Queues bytes) = omega arith
end-called c Finishes = omega arith
end-called c (Reads n) = (end-read c.recv n).0
end-called c Discards = (end-read c.recv 0).1
end-called c Emits = subst (λ (r : Received). window_end c.recv ≤ window_end r) (sym (emit-recv c)) (omega arith)
end-called c Fires = subst (λ (r : Received). window_end c.recv ≤ window_end r) (sym (timer-recv c)) (omega arith)

pub end-stays : (c : ControlBlock) (calls : List EndpointCall) → window_end c.recv ≤ window_end (endpoint_after_calls c calls).recv
end-stays c [] = omega arith
end-stays c (call ∷ calls) =
    let one = end-called c call in
    let rest = end-stays (called c call) calls in
    omega (arith, one, rest)
