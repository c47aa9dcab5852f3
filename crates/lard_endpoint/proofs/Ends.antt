-- What is emitted call by call comes to an end.
use Rattle.std.proofs.Common.{◌≡◌, ◌<◌, ◌==◌, Bool, true, false, arith, ap, sym, subst, refl, ◌∙◌}
use Rattle.std.specs.Prelude.{if◌then◌else◌, Option, Some, None, OnSome}
use Rattle.std.proofs.lemmas.Bool.Decides.{nat_tests}
use Rattle.lard_send.specs.declared.piece.Piece.{Piece}
use Rattle.lard_send.specs.Send.{may_send, next_piece}
use Rattle.lard_send.proofs.Sent.{unsent, piece_falls, next-rests}
use Rattle.lard_seq.specs.Seq.{one_if}
use Rattle.lard_segment.specs.declared.segment.Ready.{Ready}
use Rattle.lard_endpoint.specs.Control.{ControlBlock, IsControlBlock}
use Rattle.lard_endpoint.specs.Leaving.{told, owes, ack_ready, owed_ready, after_owed, ready_of, after_piece, advanced, emitted, after_emit, emits_left}

-- once the window was told, nothing is owed
told_all : (c : ControlBlock) → one_if (owes (told c)) ≡ 0
told_all c = grind (arith, nat_tests)

-- a segment of the sending half, or an ACK
by_owed : (c d : ControlBlock) (b : Bool) → owes d ≡ b → d.send ≡ c.send → owes c ≡ owes d
    → OnSome (if b then Some (ack_ready d) else None) (emits_left (if b then told d else d) < emits_left c)
by_owed c d true e s o =
    let none : one_if (owes (told d)) ≡ 0 = told_all d in
    let one : one_if (owes c) ≡ 1 = ap one_if (o ∙ e) in
    let same : unsent d.send ≡ unsent c.send = ap unsent s in
    omega arith
by_owed c d false e s o = tt

by_piece : (c : ControlBlock) (p : Option Piece) → next_piece c.send ≡ p → IsControlBlock c
    → OnSome (ready_of (advanced c) p (owed_ready (advanced c))) (emits_left (after_piece (advanced c) p (after_owed (advanced c))) < emits_left c)
by_piece c (Some p) e h =
    let less = piece_falls c.send p h.sending e in
    let none : one_if (owes (told (advanced c))) ≡ 0 = told_all (advanced c) in
    omega arith
by_piece c None e h = by_owed c (advanced c) (owes (advanced c)) refl (next-rests c.send (c.send.nxt == 0) (may_send c.send) e) refl

by_reset : (c d : ControlBlock) (b : Bool) (r : Option Ready) → OnSome r (emits_left d < emits_left c) → OnSome (if b then None else r) (emits_left (if b then c else d) < emits_left c)
by_reset c d true r h = tt
by_reset c d false r h = h

-- each segment that is emitted brings the end nearer
pub emit-falls : (c new : ControlBlock) (r : Option Ready) → IsControlBlock c → r ≡ emitted c → new ≡ after_emit c → OnSome r (emits_left new < emits_left c)
emit-falls c new r h e f =
    let falls : OnSome (emitted c) (emits_left (after_emit c) < emits_left c) =
    by_reset c (after_piece (advanced c) (next_piece c.send) (after_owed (advanced c))) c.reset (ready_of (advanced c) (next_piece c.send) (owed_ready (advanced c))) (by_piece c (next_piece c.send) refl h) in
    let P : Option Ready → ControlBlock → Type 0 = λ o n. OnSome o (emits_left n < emits_left c) in
    subst (λ (o : Option Ready). P o new) (sym e) (subst (λ (n : ControlBlock). P (emitted c) n) (sym f) falls)
