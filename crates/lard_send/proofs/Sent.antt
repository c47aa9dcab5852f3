-- What sending leaves to be sent, and what an ACK leaves as it was.
use Rattle.std.proofs.Common.{◌≡◌, ℕ, ◌+◌, ◌-◌, ◌<◌, ◌≤◌, min, nat_lt, ◌==◌, not, ◌&&◌, ◌||◌, Bool, true, false, drop, arith, sym, subst, refl, ◌∙◌, ⊎_elim}
use Rattle.std.specs.Prelude.{if◌then◌else◌, Option, Some, None, OnSome, is_some}
use Rattle.std.proofs.lemmas.Bool.{cond_both, and_parts, eqb-true, eqb-false, ltb-true, not-true, and_from, lt-ltb, eq-eqb, false≢true, cases_lt}
use Rattle.std.proofs.lemmas.Bool.Decides.{nat_tests}
use Rattle.lard_send.specs.declared.piece.Piece.{Piece}
use Rattle.lard_send.specs.Send.{Sending, IsSending, symbols, is_clear, moved_up, is_newer, windowed, after_ack, send_left, unsent_bytes, syn_piece, byte_piece, may_send, next_len, next_fin, next_piece, after_next, again_len, again_fin, resent_piece}
use Rattle.lard_seq.specs.Seq.{one_if, seq_offset}

set_bit : (b : Bool) → 0 < one_if b → b ≡ true
set_bit true h = refl
set_bit false h = absurd (omega arith)

-- what may be sent is at least one symbol
pub some_sent : (s : Sending) (b : Bool) → IsSending s → may_send s ≡ true → next_fin s ≡ b → 0 < next_len s + one_if b
some_sent s true h m e = omega arith
some_sent s false h m e =
    let may = and_parts (not (s.una == 0)) (nat_lt s.nxt (symbols s) && nat_lt 0 (send_left s)) m in
    let room = and_parts (nat_lt s.nxt (symbols s)) (nat_lt 0 (send_left s)) may.1 in
    let unsent : s.nxt < symbols s = ltb-true s.nxt (symbols s) room.0 in
    let begun : s.una ≡ 0 → ⊥ = eqb-false s.una 0 (not-true (s.una == 0) may.0) in
    let open_ : 0 < send_left s = ltb-true 0 (send_left s) room.1 in
    let mss = h.some_mss in
    let sent = h.sent in
    ⊎_elim
    (λ (some : 0 < next_len s). omega arith)
    (λ (none : next_len s ≤ 0).
    let same : next_len s ≡ unsent_bytes s = omega arith in
    let fin : s.finished ≡ true = set_bit s.finished (omega arith) in
    let fits : nat_lt (next_len s) (send_left s) ≡ true = lt-ltb (next_len s) (send_left s) (omega arith) in
    absurd (false≢true (sym e ∙ and_from s.finished ((next_len s == unsent_bytes s) && nat_lt (next_len s) (send_left s)) fin
    (and_from (next_len s == unsent_bytes s) (nat_lt (next_len s) (send_left s)) (eq-eqb (next_len s) (unsent_bytes s) same) fits))))
    (cases_lt 0 (next_len s))

-- how many symbols are not sent
abbrev pub unsent : Sending → ℕ
unsent s = symbols s - s.nxt

-- each piece leaves fewer, by the tests of `next_piece`
next-falls : (s : Sending) (first may : Bool) → IsSending s → (s.nxt == 0) ≡ first → may_send s ≡ may
    → OnSome (if first then Some syn_piece else if may then Some (byte_piece s (s.nxt - 1) (next_len s) (next_fin s)) else None)
    (unsent (if first then record s { nxt = 1 } else if may then record s { nxt = s.nxt + next_len s + one_if (next_fin s) } else s) < unsent s)
next-falls s true may h e f = let zero : s.nxt ≡ 0 = eqb-true s.nxt 0 e in omega arith
next-falls s false true h e f =
    let some : 0 < next_len s + one_if (next_fin s) = some_sent s (next_fin s) h f refl in
    let may = and_parts (not (s.una == 0)) (nat_lt s.nxt (symbols s) && nat_lt 0 (send_left s)) f in
    let room : s.nxt < symbols s = ltb-true s.nxt (symbols s) (and_parts (nat_lt s.nxt (symbols s)) (nat_lt 0 (send_left s)) may.1).0 in
    omega arith
next-falls s false false h e f = tt

pub piece_falls : (s : Sending) (p : Piece) → IsSending s → next_piece s ≡ Some p → unsent (after_next s) < unsent s
piece_falls s p h e = subst (λ (o : Option Piece). OnSome o (unsent (after_next s) < unsent s)) e (next-falls s (s.nxt == 0) (may_send s) h refl refl)

-- and without one nothing changes
pub next-rests : (s : Sending) (first may : Bool) → (if first then Some syn_piece else if may then Some (byte_piece s (s.nxt - 1) (next_len s) (next_fin s)) else None) ≡ None
    → (if first then record s { nxt = 1 } else if may then record s { nxt = s.nxt + next_len s + one_if (next_fin s) } else s) ≡ s
next-rests s true may e = cc
next-rests s false true e = cc
next-rests s false false e = refl

-- ---- a timer sends something again where some symbol is not acknowledged
some_of : (a b d : Bool) (x y z : Piece) → is_some (if a then Some x else if b then Some y else if d then Some z else None) ≡ (a || (b || d))
some_of true b d x y z = refl
some_of false true d x y z = refl
some_of false false true x y z = refl
some_of false false false x y z = refl

tests : (una nxt all : ℕ) → una ≤ nxt → nxt ≤ all → 0 < all → ((una == 0) || (nat_lt una nxt || nat_lt nxt all)) ≡ not (una == all)
tests una nxt all a b c = grind (arith, nat_tests)

pub resent_some : (s : Sending) → IsSending s → is_some (resent_piece s) ≡ not (is_clear s)
resent_some s h =
    some_of (s.una == 0) (nat_lt s.una s.nxt) (nat_lt s.nxt (symbols s)) syn_piece (byte_piece s (s.una - 1) (again_len s) (again_fin s))
    (byte_piece s (s.nxt - 1) (min (unsent_bytes s) 1) (unsent_bytes s == 0))
    ∙ tests s.una s.nxt (symbols s) h.sent h.queued (omega arith)

-- ---- an ACK does not move the peer's first number
pub after_ack-irs : (s : Sending) (ack seq wnd : ℕ) → (after_ack s ack seq wnd).irs ≡ s.irs
after_ack-irs s ack seq wnd =
    let P : Sending → Type 0 = λ t. t.irs ≡ s.irs in
    let offset = seq_offset ack s.iss in
    let moved = moved_up s offset in
    let same : P moved = cond_both (nat_lt s.una offset) (record s { una = offset; rest = drop ((offset - 1) - (s.una - 1)) s.rest }) s P (λ b. refl) (λ b. refl) in
    let last = windowed moved (s.una == 0) seq ack wnd in
    cond_both (nat_lt s.nxt offset) s (if (s.una == 0) && (offset == 0) then s else last) P (λ b. refl)
    (λ b. cond_both ((s.una == 0) && (offset == 0)) s last P (λ d. refl)
    (λ d. cond_both ((s.una == 0) || is_newer moved seq ack) (record moved { wnd = wnd; wl1 = seq; wl2 = ack }) moved P (λ e. same) (λ e. same)))
