-- Each segment that is emitted leaves less to be emitted.
use Rattle.std.proofs.Common.{◌≡◌, ◌<◌, ℕ, Bool, true, false, nat_lt, ◌==◌, ◌&&◌, ◌||◌, Some, arith, refl, ap}
use Rattle.std.proofs.lemmas.Bool.Decides.{nat_tests}
use Rattle.lard_client.specs.Control.{ClientBlock, is_established, client_rcv_wnd}
use Rattle.lard_client.specs.Leaving.{client_told, client_owes, unsaid}
use Rattle.lard_send.proofs.Sent.{piece_falls}
use Rattle.lard_send.specs.declared.piece.Piece.{Piece}
use Rattle.lard_send.specs.Send.{IsSending, next_piece, after_next}
use Rattle.lard_seq.specs.Seq.{one_if}

-- a client that told its window owes nothing
no_window : (w : ℕ) → ((w == 0) && nat_lt 0 w) ≡ false
no_window w = grind (arith, nat_tests)

told-owes : (x : ClientBlock) → client_owes (client_told x) ≡ false
told-owes x = go (is_established x) _ (no_window (client_rcv_wnd x)) where
  go : (e b : Bool) → b ≡ false → (e && (false || b)) ≡ false
  go true b h = h
  go false b h = refl

-- a segment of a piece leaves less
pub told_falls : (x : ClientBlock) (p : Piece) → IsSending x.send → next_piece x.send ≡ Some p → unsaid (client_told (record x { send = after_next x.send })) < unsaid x
told_falls x p h e =
    let quiet : one_if (client_owes (client_told (record x { send = after_next x.send }))) ≡ 0 = ap one_if (told-owes (record x { send = after_next x.send })) in
    let less = piece_falls x.send p h e in
    omega arith

-- an ACK alone leaves less
pub owed_falls : (x : ClientBlock) → client_owes x ≡ true → unsaid (client_told x) < unsaid x
owed_falls x e =
    let quiet : one_if (client_owes (client_told x)) ≡ 0 = ap one_if (told-owes x) in
    let owed : one_if (client_owes x) ≡ 1 = ap one_if e in
    omega arith
