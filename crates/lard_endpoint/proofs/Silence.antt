-- What it means that nothing is sent.
use Rattle.std.proofs.Common.{◌≡◌, not, Bool, true, false, refl, ◌∙◌}
use Rattle.std.specs.Prelude.{if◌then◌else◌, Option, Some, None, is_some}
use Rattle.lard_segment.specs.declared.segment.Ready.{Ready}
use Rattle.lard_send.specs.declared.piece.Piece.{Piece}
use Rattle.lard_send.specs.Send.{is_clear, next_piece, resent_piece}
use Rattle.lard_send.proofs.Sent.{resent_some}
use Rattle.lard_endpoint.specs.Control.{ControlBlock, IsControlBlock}
use Rattle.lard_endpoint.specs.Leaving.{owes, ack_ready, owed_ready, ready_of, advanced, retried, emitted, timed}

ready-some : (c : ControlBlock) (p : Option Piece) → is_some (ready_of c p None) ≡ is_some p
ready-some c (Some p) = refl
ready-some c None = refl

timed-by_reset : (c : ControlBlock) (b : Bool) (o : Option Ready) → b ≡ false → is_some (if b then None else o) ≡ is_some o
timed-by_reset c true o e = cc
timed-by_reset c false o e = refl

pub timer-some : (c : ControlBlock) → IsControlBlock c → c.reset ≡ false → is_some (timed c) ≡ not (is_clear c.send)
timer-some c h r = timed-by_reset c c.reset (ready_of (retried c) (resent_piece c.send) None) r ∙ ready-some (retried c) (resent_piece c.send) ∙ resent_some c.send h.sending

by_owed : (b : Bool) (r : Ready) → (if b then Some r else None) ≡ None → b ≡ false
by_owed true r e = cc
by_owed false r e = refl

by_piece : (c : ControlBlock) (p : Option Piece) → ready_of (advanced c) p (owed_ready (advanced c)) ≡ None → (owes c ≡ false) × (p ≡ None)
by_piece c (Some p) e = cc
by_piece c None e = (by_owed (owes c) (ack_ready (advanced c)) e, refl)

by_reset : (b : Bool) (o : Option Ready) → b ≡ false → (if b then None else o) ≡ None → o ≡ None
by_reset true o r e = cc
by_reset false o r e = e

pub emit-none : (c : ControlBlock) → c.reset ≡ false → emitted c ≡ None → (owes c ≡ false) × (next_piece c.send ≡ None)
emit-none c r e = by_piece c (next_piece c.send) (by_reset c.reset (ready_of (advanced c) (next_piece c.send) (owed_ready (advanced c))) r e)
