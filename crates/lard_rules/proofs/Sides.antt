-- What a sending half keeps as segments come and go: its first number, its bytes and its end.
use Rattle.std.proofs.Common.{◌≡◌, ℕ, ◌+◌, ◌-◌, cond, max, nat_lt, ◌==◌, ◌&&◌, ◌||◌, drop, refl}
use Rattle.std.proofs.lemmas.Bool.{cond_both}
use Rattle.lard_send.specs.Send.{Sending, symbols, moved_up, is_newer, windowed, after_ack, may_send, next_len, next_fin, after_next, after_resend}
use Rattle.lard_seq.specs.Seq.{one_if, seq_offset}

pub record IsSameSide (s t : Sending) : Type 0 where
  pub first : t.iss ≡ s.iss
  pub total : t.total ≡ s.total
  pub finished : t.finished ≡ s.finished

pub same_side : (s : Sending) → IsSameSide s s
same_side s = record { first = refl; total = refl; finished = refl }

pub next-side : (s : Sending) → IsSameSide s (after_next s)
next-side s =
    let more : Sending = record s { nxt = s.nxt + next_len s + one_if (next_fin s) } in
    let same : (t : Sending) → IsSameSide s (record s { nxt = t.nxt }) = λ t. record { first = refl; total = refl; finished = refl } in
    cond_both (s.nxt == 0) (record s { nxt = 1 }) (cond (may_send s) more s) (IsSameSide s) (λ t. same (record s { nxt = 1 }))
    (λ t. cond_both (may_send s) more s (IsSameSide s) (λ u. same more) (λ u. same_side s))

pub resend-side : (s : Sending) → IsSameSide s (after_resend s)
resend-side s =
    let same : (n : ℕ) → IsSameSide s (record s { nxt = n }) = λ n. record { first = refl; total = refl; finished = refl } in
    let last : Sending = cond (nat_lt s.nxt (symbols s)) (record s { nxt = s.nxt + 1 }) s in
    cond_both (s.una == 0) (record s { nxt = max s.nxt 1 }) (cond (nat_lt s.una s.nxt) s last) (IsSameSide s) (λ t. same (max s.nxt 1))
    (λ t. cond_both (nat_lt s.una s.nxt) s last (IsSameSide s) (λ u. same_side s)
    (λ u. cond_both (nat_lt s.nxt (symbols s)) (record s { nxt = s.nxt + 1 }) s (IsSameSide s) (λ v. same (s.nxt + 1)) (λ v. same_side s)))

pub ack-side : (s : Sending) (ack seq wnd : ℕ) → IsSameSide s (after_ack s ack seq wnd)
ack-side s ack seq wnd =
    let offset = seq_offset ack s.iss in
    let moved = moved_up s offset in
    let last = windowed moved (s.una == 0) seq ack wnd in
    let same : IsSameSide s moved = cond_both (nat_lt s.una offset) (record s { una = offset; rest = drop ((offset - 1) - (s.una - 1)) s.rest }) s (IsSameSide s)
    (λ t. record { first = refl; total = refl; finished = refl }) (λ t. same_side s) in
    cond_both (nat_lt s.nxt offset) s (cond ((s.una == 0) && (offset == 0)) s last) (IsSameSide s) (λ t. same_side s)
    (λ t. cond_both ((s.una == 0) && (offset == 0)) s last (IsSameSide s) (λ u. same_side s)
    (λ u. cond_both ((s.una == 0) || is_newer moved seq ack) (record moved { wnd = wnd; wl1 = seq; wl2 = ack }) moved (IsSameSide s)
    (λ v. record { first = same.first; total = same.total; finished = same.finished }) (λ v. same)))
