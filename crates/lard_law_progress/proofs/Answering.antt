-- One that has nothing to say but an acknowledgement says just that.
use Rattle.std.proofs.Common.{◌≡◌, ℕ, ◌==◌, ◌&&◌, ◌||◌, nat_lt, not, List, [], ◌∷◌, Bool, true, false, cond, Option, Some, None, refl, ap, ◌∙◌}
use Rattle.std.proofs.lemmas.Bool.{cond-false, cond-true}
use Rattle.lard_law_view.specs.Prelude.{ClientBlock, IsSending, Place, Ready, Sending, after_next, client_speaks, is_client_open, is_established, may_send, next_piece, to_front}
use Rattle.lard_client.specs.Control as control
use Rattle.lard_client.specs.Leaving as client
use Rattle.lard_rules.proofs.Saying.{client-done, client-more}
use Rattle.lard_send.specs.declared.piece.Piece.{Piece}
use Rattle.lard_send.proofs.Sent.{next-rests}

-- ---- a client

pub client-answers : (x : ClientBlock) → IsSending x.send → is_client_open x ≡ true → is_established x ≡ true → x.owed ≡ true → next_piece x.send ≡ None → (control.client_rcv_wnd x == 0) ≡ false
    → client_speaks x ≡ (to_front (client.client_told x) (client.client_ack_ready x) ∷ [], client.client_told x)
client-answers x sound open_ established owed none wide =
    let still : record x { send = after_next x.send } ≡ x = ap (λ (s : Sending). record x { send = s }) (next-rests x.send (x.send.nxt == 0) (may_send x.send) none) in
    let owing : client.client_owes x ≡ true = (λ i. established i && (owed i || ((x.last_window == 0) && nat_lt 0 (control.client_rcv_wnd x)))) in
    let says : client.client_emitted x ≡ Some (client.client_ack_ready x) =
    ap (λ (t : Bool). cond {A = Option Ready} (not t) None (client.client_ready_of x (next_piece x.send) (client.client_owed_ready x))) open_
    ∙ ap (λ (o : Option Piece). client.client_ready_of x o (client.client_owed_ready x)) none ∙ cond-true (client.client_owes x) (Some (client.client_ack_ready x)) None owing in
    let after : client.client_after_emit x ≡ client.client_told x =
    ap (λ (t : Bool). cond (not t) x (client.client_after_piece (record x { send = after_next x.send }) (next_piece x.send) (client.client_after_owed x))) open_
    ∙ ap (λ (o : Option Piece). client.client_after_piece (record x { send = after_next x.send }) o (client.client_after_owed x)) none
    ∙ cond-true (client.client_owes x) (client.client_told x) x owing in
    let quiet : client.client_emitted (client.client_told x) ≡ None = silent (client.client_told x) open_ none (free (client.client_told x) established refl wide) in
    let more = client-more x (client.client_ack_ready x) sound says in
    more ∙ ap (λ (y : ClientBlock). (to_front y (client.client_ack_ready x) ∷ (client_speaks y).0, (client_speaks y).1)) after
    ∙ ap (λ (r : List (Place × List ℕ) × ClientBlock). (to_front (client.client_told x) (client.client_ack_ready x) ∷ r.0, r.1)) (client-done (client.client_told x) quiet)
  where
    free : (y : ClientBlock) → is_established y ≡ true → y.owed ≡ false → (y.last_window == 0) ≡ false → client.client_owes y ≡ false
    free y e a l = λ i. e i && (a i || ((l i) && nat_lt 0 (control.client_rcv_wnd y)))

    silent : (y : ClientBlock) → is_client_open y ≡ true → next_piece y.send ≡ None → client.client_owes y ≡ false → client.client_emitted y ≡ None
    silent y r n o =
        ap (λ (t : Bool). cond {A = Option Ready} (not t) None (client.client_ready_of y (next_piece y.send) (client.client_owed_ready y))) r
        ∙ ap (λ (p : Option Piece). client.client_ready_of y p (client.client_owed_ready y)) n
        ∙ cond-false (client.client_owes y) (Some (client.client_ack_ready y)) None o
