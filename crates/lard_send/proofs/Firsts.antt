-- What is sent for the first time stays in the peer's window.
use Rattle.std.proofs.Common.{◌≡◌, ◌+◌, ◌-◌, ◌<◌, ◌≤◌, nat_lt, ◌==◌, not, ◌&&◌, Bool, true, false, arith, subst, refl}
use Rattle.std.specs.Prelude.{if◌then◌else◌, Option, Some, None, IfSome}
use Rattle.std.proofs.lemmas.Bool.{cond_both, and_parts, eqb-false, ltb-true}
use Rattle.lard_send.specs.declared.piece.Piece.{Piece}
use Rattle.lard_send.specs.Send.{Sending, symbols, peer_room, send_left, unsent_bytes, syn_piece, byte_piece, may_send, next_len, next_fin, next_piece, IsPieceAllowed}
use Rattle.lard_seq.specs.Seq.{one_if}

-- the peer has room for no more than its window
pub room_within : (s : Sending) → peer_room s ≤ s.wnd
unfolding peer_room
room_within s = omega arith

-- bytes and the FIN end in the room
ends_within : (s : Sending) (b : Bool) → next_fin s ≡ b → 0 < send_left s → s.nxt + next_len s + one_if b ≤ s.una + peer_room s
ends_within s true e open_ =
    let ends = and_parts s.finished ((next_len s == unsent_bytes s) && nat_lt (next_len s) (send_left s)) e in
    let less : next_len s < send_left s = ltb-true (next_len s) (send_left s) (and_parts (next_len s == unsent_bytes s) (nat_lt (next_len s) (send_left s)) ends.1).1 in
    omega arith
ends_within s false e open_ = omega arith

next-all : (s : Sending) → IfSome (next_piece s) (IsPieceAllowed s)
next-all s =
    let P : Option Piece → Type 0 = λ o. IfSome o (IsPieceAllowed s) in
    let next = Some (byte_piece s (s.nxt - 1) (next_len s) (next_fin s)) in
    let within = room_within s in
    cond_both (s.nxt == 0) (Some syn_piece) (if may_send s then next else None) P
    (λ b. record { first = λ e. absurd (cc); below = λ e. absurd (cc); small = omega arith })
    (λ b. cond_both (may_send s) next None P
    (λ m.
    let some : s.nxt ≡ 0 → ⊥ = eqb-false s.nxt 0 b in
    let may = and_parts (not (s.una == 0)) (nat_lt s.nxt (symbols s) && nat_lt 0 (send_left s)) m in
    let open_ : 0 < send_left s = ltb-true 0 (send_left s) (and_parts (nat_lt s.nxt (symbols s)) (nat_lt 0 (send_left s)) may.1).1 in
    let end = ends_within s (next_fin s) refl open_ in
    record { first = λ e. omega arith; below = λ e. omega arith; small = omega arith })
    (λ m. tt))

pub next-allowed : (s : Sending) (p : Piece) → next_piece s ≡ Some p → IsPieceAllowed s p
next-allowed s p e = subst (λ (o : Option Piece). IfSome o (IsPieceAllowed s)) e (next-all s)
