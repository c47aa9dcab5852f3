-- What a client sends may be written.
use Rattle.std.proofs.Common.{◌≤◌, Bool, true, false, cond, arith, refl}
use Rattle.lard_client.specs.Control.{ClientBlock}
use Rattle.lard_client.specs.Leaving.{IsWritable, syn_ready, data_ready, client_piece_ready}
use Rattle.lard_send.specs.declared.piece.Piece.{Piece}

-- a segment with little data, and with a size in its range where it is the SYN
of_kind : (x : ClientBlock) (p : Piece) (b : Bool) → 1 ≤ x.mss → x.mss ≤ 1460 → p.len ≤ 1460 → IsWritable (cond b (syn_ready x) (data_ready x p))
of_kind x p true h k l = record { small_payload = omega arith; some_mss = h; small_mss = k; no_ack = λ e. refl }
of_kind x p false h k l = record { small_payload = l; some_mss = tt; small_mss = tt; no_ack = λ e. cc }

pub writable_piece : (x : ClientBlock) (p : Piece) → 1 ≤ x.mss → x.mss ≤ 1460 → p.len ≤ 1460 → IsWritable (client_piece_ready x p)
writable_piece x p h k l = of_kind x p p.syn h k l
