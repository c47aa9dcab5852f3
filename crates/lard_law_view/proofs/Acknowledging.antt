-- What an acknowledgement does to a sending half, at either end: UNA grows, and to no more than was told.
use Rattle.std.proofs.Common.{◌≡◌, ◌≤◌, ◌<◌, ◌-◌, ◌^◌, ℕ, true, cond, ◌==◌, ◌&&◌, ◌||◌, nat_lt, drop, arith, ap}
use Rattle.std.proofs.lemmas.Bool.{cond_both, ltb-true}
use Rattle.lard_law_view.proofs.Acked.{Acks}
use Rattle.lard_law_view.specs.Prelude.{Sending, after_ack, is_newer, moved_up, seq_add, seq_offset, windowed}

-- the offset of what was added is at most that
offset-least : (b a : ℕ) → b < 2 ^ 32 → seq_offset (seq_add b a) b ≤ a
offset-least b a h = omega arith

-- a number that acknowledges at most so many symbols has at most that offset
pub acks-offset : (first most number : ℕ) → first < 2 ^ 32 → Acks first most number → seq_offset number first ≤ most
acks-offset first most number h a =
    let at = a.2 in
    let same : seq_offset number first ≡ seq_offset (seq_add first a.0) first = ap (λ n. seq_offset n first) a.1 in
    let least = offset-least first a.0 h in
    omega arith

-- UNA grows, and only to what was told
abbrev pub Moves : ℕ → Sending → Sending → Type 0
Moves n s t = (s.una ≤ t.una) × (s.una ≤ n → t.una ≤ n) × (s.finished ≡ true → t.finished ≡ true)

-- an ACK moves UNA to its offset
pub ack-moves : (n : ℕ) (s : Sending) (ack seq wnd : ℕ) → seq_offset ack s.iss ≤ n → Moves n s (after_ack s ack seq wnd)
ack-moves n s ack seq wnd told =
    let offset = seq_offset ack s.iss in
    let P : Sending → Type 0 = Moves n s in
    let stays : P s = (omega arith, λ e. e, λ e. e) in
    let moved = moved_up s offset in
    let last = windowed moved (s.una == 0) seq ack wnd in
    let up : P moved =
    cond_both (nat_lt s.una offset) (record s { una = offset; rest = drop ((offset - 1) - (s.una - 1)) s.rest }) s P
    (λ t. let more : s.una < offset = ltb-true s.una offset t in (omega arith, λ e. told, λ e. e)) (λ t. stays) in
    cond_both (nat_lt s.nxt offset) s (cond ((s.una == 0) && (offset == 0)) s last) P (λ t. stays)
    (λ t. cond_both ((s.una == 0) && (offset == 0)) s last P (λ u. stays)
    (λ u. cond_both ((s.una == 0) || is_newer moved seq ack) (record moved { wnd = wnd; wl1 = seq; wl2 = ack }) moved P (λ v. up) (λ v. up)))
