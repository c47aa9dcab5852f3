-- What is emitted stays in the cluster's window, and what is told of the own one is not taken back.
use Rattle.std.proofs.Common.{◌≡◌, ◌+◌, ◌<◌, ◌≤◌, ◌==◌, not, ◌||◌, Bool, true, false, List, [], ◌∷◌, arith, refl, ap, subst, ⊎_elim}
use Rattle.std.specs.Prelude.{if◌then◌else◌, Option, Some, None, IfSome}
use Rattle.std.proofs.lemmas.Bool.{cond_both}
use Rattle.lard_client.specs.declared.heard.Heard.{Heard}
use Rattle.lard_client.specs.declared.phase.Phase.{Phase}
use Rattle.lard_client.specs.declared.phase.Phase.TheVariants.{Open, Aborted, Reset}
use Rattle.lard_client.specs.Arriving.{on_greeting, client_on_segment, heard_open, heard_in, client_arrived}
use Rattle.lard_client.specs.Control.{ClientBlock, is_client_open, is_writing, is_established}
use Rattle.lard_client.specs.Laws.{ClientCall, Arrives, Writes, Shuts, Aborts, Holds, Takes, Emits, Fires, client_called, client_after_calls, client_window_end, ClientTellsTheWindow}
use Rattle.lard_client.specs.Leaving.{syn_ready, data_ready, client_ack_ready, client_told, client_owes, client_owed_ready, client_ready_of, client_after_piece, client_emitted, client_timed}
use Rattle.lard_client.proofs.Outcomes.{greeting-quiet, segment-outcome}
use Rattle.lard_segment.specs.declared.segment.Ready.{Ready}
use Rattle.lard_segment.specs.Segment.{Said}
use Rattle.lard_send.proofs.Firsts.{next-allowed}
use Rattle.lard_send.specs.declared.piece.Piece.{Piece}
use Rattle.lard_send.specs.Send.{Sending, send_closed, queued_too, after_next, after_resend, next_piece, resent_piece, IsPieceAllowed}
use Rattle.lard_seq.specs.Seq.{one_if}

-- ---- the cluster's window
abbrev Stays : Sending → Ready → Type 0
Stays s r = (r.len ≤ s.mss) × (r.flags.syn ≡ false → 0 < r.len + one_if r.flags.fin → (1 + r.at) + r.len + one_if r.flags.fin ≤ s.una + s.wnd)

piece-stays : (x : ClientBlock) (p : Piece) (b : Bool) → p.syn ≡ b → IsPieceAllowed x.send p → Stays x.send (if b then syn_ready x else data_ready x p)
piece-stays x p true e h = (omega arith, λ f some. absurd (cc))
piece-stays x p false e h = (h.small, λ f some. let first = h.first e in let below = h.below e in omega arith)

by_piece : (x : ClientBlock) (p : Option Piece) (b : Bool) → next_piece x.send ≡ p → IfSome (client_ready_of x p (if b then Some (client_ack_ready x) else None)) (Stays x.send)
by_piece x (Some p) b e = piece-stays x p p.syn refl (next-allowed x.send p e)
by_piece x None true e = (omega arith, λ f some. absurd (omega (arith, some)))
by_piece x None false e = tt

pub emitted-allowed : (x : ClientBlock) (r : Ready) → client_emitted x ≡ Some r → Stays x.send r
emitted-allowed x r e =
    let P : Option Ready → Type 0 = λ o. IfSome o (Stays x.send) in
    subst P e (cond_both (not (is_client_open x)) None (client_ready_of x (next_piece x.send) (client_owed_ready x)) P (λ t. tt) (λ t. by_piece x (next_piece x.send) (client_owes x) refl))

-- ---- what is told
piece-tells : (x : ClientBlock) (p : Piece) (b : Bool) → ClientTellsTheWindow x (if b then syn_ready x else data_ready x p)
piece-tells x p true = record { wnd = refl; ack = λ e. absurd (cc); no_rst = refl }
piece-tells x p false = record { wnd = refl; ack = λ e. (refl, refl); no_rst = refl }

tells : (x : ClientBlock) (p : Option Piece) (b : Bool) → IfSome (client_ready_of x p (if b then Some (client_ack_ready x) else None)) (ClientTellsTheWindow x)
tells x (Some p) b = piece-tells x p p.syn
tells x None true = record { wnd = refl; ack = λ e. (refl, refl); no_rst = refl }
tells x None false = tt

pub emitted-tells : (x : ClientBlock) (r : Ready) → client_emitted x ≡ Some r → ClientTellsTheWindow x r
emitted-tells x r e =
    let P : Option Ready → Type 0 = λ o. IfSome o (ClientTellsTheWindow x) in
    subst P e (cond_both (not (is_client_open x)) None (client_ready_of x (next_piece x.send) (client_owed_ready x)) P (λ t. tt) (λ t. tells x (next_piece x.send) (client_owes x)))

pub timed-tells : (x : ClientBlock) (r : Ready) → client_timed x ≡ Some r → ClientTellsTheWindow x r
timed-tells x r e =
    let P : Option Ready → Type 0 = λ o. IfSome o (ClientTellsTheWindow x) in
    subst P e (cond_both (not (is_client_open x)) None (client_ready_of x (resent_piece x.send) None) P (λ t. tt) (λ t. tells x (resent_piece x.send) false))

-- ---- the own window
abbrev NoLess : ClientBlock → Heard × ClientBlock → Type 0
NoLess x r = client_window_end x ≤ client_window_end r.1

end-open : (x : ClientBlock) (s : Said) → NoLess x (heard_open x s)
end-open x s =
    cond_both (x.send.una == 0) (on_greeting x s) (client_on_segment x s) (NoLess x)
    (λ t. greeting-quiet x s (NoLess x) (λ y a e w. let f : one_if y.eof ≡ one_if x.eof = ap one_if e in omega arith))
    (λ t. ⊎_elim
    (λ u. let a = u.1 in let f : one_if (client_on_segment x s).1.eof ≡ one_if x.eof = ap one_if u.2 in let w = u.4 in omega arith)
    (λ u. let a = u.2 in let f : one_if x.eof ≡ 0 = ap one_if u.0 in let w = u.6 in omega arith)
    (segment-outcome x s))

end-phase : (p : Phase) (x : ClientBlock) (s : Said) → NoLess x (heard_in p x s)
end-phase Open x s = end-open x s
end-phase Aborted x s = omega arith
end-phase Reset x s = omega arith

end-arrived : (x : ClientBlock) (s : Said) → client_window_end x ≤ client_window_end (client_arrived x s).1
unfolding client_arrived
end-arrived x s = end-phase x.phase x s

-- sending leaves it
by_sent : (b o : Bool) (x d : ClientBlock) (p : Option Piece) → client_window_end x ≤ client_window_end d → client_window_end x ≤ client_window_end (if b then x else client_after_piece d p (if o then client_told x else x))
by_sent true o x d p h = omega arith
by_sent false o x d (Some p) h = h
by_sent false true x d None h = omega arith
by_sent false false x d None h = omega arith

-- either of two clients
either : (x y z : ClientBlock) (b : Bool) → client_window_end x ≤ client_window_end y → client_window_end x ≤ client_window_end z → client_window_end x ≤ client_window_end (if b then y else z)
either x y z true h k = h
either x y z false h k = k

end-called : (x : ClientBlock) (call : ClientCall) → client_window_end x ≤ client_window_end (client_called x call)
end-called x (Arrives s) = end-arrived x s
end-called x (Writes bytes) = either x (record x { send = queued_too x.send bytes }) x (is_writing x) (omega arith) (omega arith)
end-called x Shuts = either x (record x { send = send_closed x.send }) x (is_client_open x) (omega arith) (omega arith)
end-called x Aborts = either x (record x { phase = Aborted }) x (is_client_open x) (omega arith) (omega arith)
end-called x Holds = either x (record x { holding = true }) x (is_client_open x) (omega arith) (omega arith)
end-called x Takes = either x (record x { holding = false; held = 0; owed = x.owed || is_established x }) x (is_client_open x) (omega arith) (omega arith)
end-called x Emits = by_sent (not (is_client_open x)) (client_owes x) x (record x { send = after_next x.send }) (next_piece x.send) (omega arith)
end-called x Fires = by_sent (not (is_client_open x)) false x (record x { send = after_resend x.send }) (resent_piece x.send) (omega arith)

pub end-stays : (x : ClientBlock) (calls : List ClientCall) → client_window_end x ≤ client_window_end (client_after_calls x calls)
end-stays x [] = omega arith
end-stays x (call ∷ calls) =
    let one = end-called x call in
    let rest = end-stays (client_called x call) calls in
    omega (arith, one, rest)
