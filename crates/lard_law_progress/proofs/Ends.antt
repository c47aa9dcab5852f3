-- How an endpoint goes on: nothing that was acknowledged comes back, and its peer's window is the one that it knew or the one that came.
use Rattle.std.proofs.Common.{ap, arith, cond, drop, inl, inr, max, nat_lt, refl, true, ℕ, ◌&&◌, ◌+◌, ◌-◌, ◌<◌, ◌==◌, ◌||◌, ◌∙◌, ◌≡◌, ◌≤◌, ◌⊎◌}
use Rattle.std.proofs.lemmas.Bool.{cond_both, ltb-true}
use Rattle.lard_law_view.specs.Prelude.{ControlBlock, Said, Sending, advanced, after_ack, after_emit, after_next, after_resend, after_timer, is_newer, may_send, moved_up, next_fin, next_len, on_segment, one_if, retried, seq_offset, speaks, symbols, told, windowed}
use Rattle.lard_rules.proofs.Halves.{KeptBySending, endpoint-segment}
use Rattle.lard_rules.proofs.Loops.{speaks_keep}
use Rattle.lard_rules.proofs.Hearing.{emit-keeps, segment-keeps, timer-keeps}
use Rattle.lard_law_view.proofs.Speaking.{next-moves, resend-moves}

-- no less is acknowledged, as many bytes were queued, and a side that was closed stays so
pub record IsAhead (s t : Sending) : Type 0 where
  pub una : s.una ≤ t.una
  pub total : t.total ≡ s.total
  pub shut : s.finished ≡ true → t.finished ≡ true

pub ahead-self : (s : Sending) → IsAhead s s
ahead-self s = record { una = omega arith; total = refl; shut = λ e. e }

pub ahead-then : (s t u : Sending) → IsAhead s t → IsAhead t u → IsAhead s u
ahead-then s t u h k = record { una = let x : s.una ≤ t.una = h.una in let y : t.una ≤ u.una = k.una in omega arith; total = k.total ∙ h.total; shut = λ e. k.shut (h.shut e) }

up-ahead : (s : Sending) (offset : ℕ) → IsAhead s (moved_up s offset)
up-ahead s offset = cond_both (nat_lt s.una offset) (record s { una = offset; rest = drop ((offset - 1) - (s.una - 1)) s.rest }) s (IsAhead s)
    (λ t. record { una = let l : s.una < offset = ltb-true s.una offset t in omega arith; total = refl; shut = λ e. e }) (λ t. ahead-self s)

acks-ahead : (s : Sending) (ack seq wnd : ℕ) → IsAhead s (after_ack s ack seq wnd)
acks-ahead s ack seq wnd =
    let up = moved_up s (seq_offset ack s.iss) in
    cond_both (nat_lt s.nxt (seq_offset ack s.iss)) s (cond ((s.una == 0) && (seq_offset ack s.iss == 0)) s (windowed up (s.una == 0) seq ack wnd)) (IsAhead s) (λ t. ahead-self s)
    (λ t. cond_both ((s.una == 0) && (seq_offset ack s.iss == 0)) s (windowed up (s.una == 0) seq ack wnd) (IsAhead s) (λ t. ahead-self s)
    (λ t. let h = up-ahead s (seq_offset ack s.iss) in cond_both ((s.una == 0) || is_newer up seq ack) (record up { wnd = wnd; wl1 = seq; wl2 = ack }) up (IsAhead s) (λ t. record { una = h.una; total = h.total; shut = h.shut }) (λ t. h)))

nexts-ahead : (s : Sending) → IsAhead s (after_next s)
nexts-ahead s = cond_both (s.nxt == 0) (record s { nxt = 1 }) (cond (may_send s) (record s { nxt = s.nxt + next_len s + one_if (next_fin s) }) s) (IsAhead s)
    (λ t. record { una = omega arith; total = refl; shut = λ e. e })
    (λ t. cond_both (may_send s) (record s { nxt = s.nxt + next_len s + one_if (next_fin s) }) s (IsAhead s) (λ t. record { una = omega arith; total = refl; shut = λ e. e }) (λ t. ahead-self s))

resends-ahead : (s : Sending) → IsAhead s (after_resend s)
resends-ahead s = cond_both (s.una == 0) (record s { nxt = max s.nxt 1 }) (cond (nat_lt s.una s.nxt) s (cond (nat_lt s.nxt (symbols s)) (record s { nxt = s.nxt + 1 }) s)) (IsAhead s)
    (λ t. record { una = omega arith; total = refl; shut = λ e. e })
    (λ t. cond_both (nat_lt s.una s.nxt) s (cond (nat_lt s.nxt (symbols s)) (record s { nxt = s.nxt + 1 }) s) (IsAhead s) (λ t. ahead-self s)
    (λ t. cond_both (nat_lt s.nxt (symbols s)) (record s { nxt = s.nxt + 1 }) s (IsAhead s) (λ t. record { una = omega arith; total = refl; shut = λ e. e }) (λ t. ahead-self s)))

pub kept-ahead : (s : Sending) → KeptBySending (IsAhead s)
kept-ahead s = record {
  acks = λ t ack seq wnd h. ahead-then s t (after_ack t ack seq wnd) h (acks-ahead t ack seq wnd);
  nexts = λ t h. ahead-then s t (after_next t) h (nexts-ahead t);
  resends = λ t h. ahead-then s t (after_resend t) h (resends-ahead t);
  closes = λ t h. record { una = h.una; total = h.total; shut = λ e. refl };
  learns = λ t irs mss h. record { una = h.una; total = h.total; shut = h.shut };
}

-- ---- an endpoint

pub heard-ahead : (b : ControlBlock) (s : Said) → IsAhead b.send (on_segment b s).1.send
heard-ahead b s = endpoint-segment (IsAhead b.send) (kept-ahead b.send) b s (ahead-self b.send)

-- it says what it may: the window that it knows and all that it took stay
pub record IsSaid (b d : ControlBlock) : Type 0 where
  pub ahead : IsAhead b.send d.send
  pub una : d.send.una ≡ b.send.una
  pub finished : d.send.finished ≡ b.send.finished
  pub wnd : d.send.wnd ≡ b.send.wnd
  pub recv : d.recv ≡ b.recv
  pub reset : d.reset ≡ b.reset

said-self : (b : ControlBlock) → IsSaid b b
said-self b = record { ahead = ahead-self b.send; una = refl; finished = refl; wnd = refl; recv = refl; reset = refl }

said-then : (b d f : ControlBlock) → IsSaid b d → IsSaid d f → IsSaid b f
said-then b d f h k = record { ahead = ahead-then b.send d.send f.send h.ahead k.ahead; una = k.una ∙ h.una; finished = k.finished ∙ h.finished; wnd = k.wnd ∙ h.wnd; recv = k.recv ∙ h.recv; reset = k.reset ∙ h.reset }

advanced-said : (b : ControlBlock) → IsSaid b (advanced b)
advanced-said b = let m = next-moves b.send in record { ahead = nexts-ahead b.send; una = ap (λ (s : Sending). s.una) m; finished = ap (λ (s : Sending). s.finished) m; wnd = ap (λ (s : Sending). s.wnd) m; recv = refl; reset = refl }

told-said : (b d : ControlBlock) → IsSaid b d → IsSaid b (told d)
told-said b d h = record { ahead = h.ahead; una = h.una; finished = h.finished; wnd = h.wnd; recv = h.recv; reset = h.reset }

pub emit-said : (b : ControlBlock) → IsSaid b (after_emit b)
emit-said b = let a = advanced-said b in emit-keeps (IsSaid b) b (said-self b) a (told-said b (advanced b) a)

pub speaks-said : (c : ℕ) (b : ControlBlock) → IsSaid b (speaks c b).1
speaks-said c b = speaks_keep c (λ b ss d. IsSaid b d) (record { rests = said-self; says = λ b r ss d e h. said-then b (after_emit b) d (emit-said b) h }) b

-- its timer fires
pub timer-said : (b : ControlBlock) → IsSaid b (after_timer b)
timer-said b =
    let m = resend-moves b.send in
    let a : IsSaid b (retried b) = record { ahead = resends-ahead b.send; una = ap (λ (s : Sending). s.una) m; finished = ap (λ (s : Sending). s.finished) m; wnd = ap (λ (s : Sending). s.wnd) m; recv = refl; reset = refl } in
    timer-keeps (IsSaid b) b (said-self b) a (told-said b (retried b) a)

-- ---- its peer's window

abbrev pub IsWindow : ControlBlock → Said → ControlBlock → Type 0
IsWindow b s d = (d.send.wnd ≡ b.send.wnd) ⊎ (d.send.wnd ≡ s.wnd)

ack-window : (s : Sending) (ack seq wnd : ℕ) → ((after_ack s ack seq wnd).wnd ≡ s.wnd) ⊎ ((after_ack s ack seq wnd).wnd ≡ wnd)
ack-window s ack seq wnd =
    let P : Sending → Type 0 = λ t. (t.wnd ≡ s.wnd) ⊎ (t.wnd ≡ wnd) in
    let up = moved_up s (seq_offset ack s.iss) in
    let same : up.wnd ≡ s.wnd = cond_both (nat_lt s.una (seq_offset ack s.iss)) (record s { una = seq_offset ack s.iss; rest = drop ((seq_offset ack s.iss - 1) - (s.una - 1)) s.rest }) s (λ (t : Sending). t.wnd ≡ s.wnd) (λ t. refl) (λ t. refl) in
    cond_both (nat_lt s.nxt (seq_offset ack s.iss)) s (cond ((s.una == 0) && (seq_offset ack s.iss == 0)) s (windowed up (s.una == 0) seq ack wnd)) P (λ t. inl refl)
    (λ t. cond_both ((s.una == 0) && (seq_offset ack s.iss == 0)) s (windowed up (s.una == 0) seq ack wnd) P (λ t. inl refl)
    (λ t. cond_both ((s.una == 0) || is_newer up seq ack) (record up { wnd = wnd; wl1 = seq; wl2 = ack }) up P (λ t. inr refl) (λ t. inl same)))

pub heard-window : (b : ControlBlock) (s : Said) → IsWindow b s (on_segment b s).1
heard-window b s =
    let w = ack-window b.send s.ack s.seq s.wnd in
    segment-keeps b s (IsWindow b s) (record { rests = λ owed. inl refl; resets = λ t. inl refl; acks = λ owed c. w; comes = λ c some. w })
