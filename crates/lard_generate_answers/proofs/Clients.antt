-- A client that writes goes on to write: speaking changes nothing of that, nor does what it writes.
use Rattle.std.proofs.Common.{◌≡◌, ◌&&◌, not, ℕ, List, Option, Some, None, refl, ap, ◌∙◌}
use Rattle.std.proofs.lemmas.Bool.{cond_both}
use Rattle.lard_law_view.specs.Prelude.{ClientBlock, Sending, after_next, client_after_emit, client_after_owed, client_after_piece, client_owes, client_speaks, client_told, client_written, is_client_open, is_open_in, is_writing, next_piece, queued_too}
use Rattle.lard_rules.proofs.Loops.{client_keeps}
use Rattle.lard_send.specs.declared.piece.Piece.{Piece}
use Rattle.lard_law_view.proofs.Speaking.{next-moves}

-- it is of the same connection, and writes if the other did
abbrev pub IsLike : ClientBlock → ClientBlock → Type 0
IsLike x y = (y.c ≡ x.c) × (is_writing y ≡ is_writing x)

like-piece : (x y z : ClientBlock) (p : Option Piece) → IsLike x y → IsLike x z → IsLike x (client_after_piece y p z)
like-piece x y z (Some p) h k = h
like-piece x y z None h k = k

like-emit : (x : ClientBlock) → IsLike x (client_after_emit x)
like-emit x =
    let sent : IsLike x (record x { send = after_next x.send }) = (refl, ap (λ (s : Sending). is_open_in x.phase && not s.finished) (next-moves x.send)) in
    cond_both (not (is_client_open x)) x (client_after_piece (record x { send = after_next x.send }) (next_piece x.send) (client_after_owed x)) (IsLike x) (λ t. (refl, refl))
    (λ t. like-piece x (record x { send = after_next x.send }) (client_after_owed x) (next_piece x.send) sent (cond_both (client_owes x) (client_told x) x (IsLike x) (λ u. (refl, refl)) (λ u. (refl, refl))))

pub like-speaks : (x : ClientBlock) → IsLike x (client_speaks x).1
like-speaks x = client_keeps (λ (x : ClientBlock) ss y. IsLike x y) (record {
  rests = λ x. (refl, refl);
  says = λ x r ss y e later. (later.0 ∙ (like-emit x).0, later.1 ∙ (like-emit x).1);
}) x

pub like-written : (x : ClientBlock) (bytes : List ℕ) → IsLike x (client_written x bytes)
like-written x bytes = cond_both (is_writing x) (record x { send = queued_too x.send bytes }) x (IsLike x) (λ t. (refl, refl)) (λ t. (refl, refl))
