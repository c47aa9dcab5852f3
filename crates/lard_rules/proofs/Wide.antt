-- The window of the peer that an endpoint keeps fits a message, whatever comes and goes.
use Rattle.std.proofs.Common.{◌≡◌, ◌<◌, ◌+◌, ◌^◌, ℕ, max, cond, Bool, refl, sym, subst, nat_lt, ◌==◌, ◌&&◌, ◌||◌}
use Rattle.std.proofs.lemmas.Bool.{cond_both}
use Rattle.lard_endpoint.specs.Arriving.{on_segment}
use Rattle.lard_endpoint.specs.Control.{ControlBlock, discarding_on, finishing}
use Rattle.lard_endpoint.specs.Leaving.{after_emit, after_timer}
use Rattle.lard_request.specs.declared.verdict.Verdict.{Verdict}
use Rattle.lard_request.specs.Verdict.{closes}
use Rattle.lard_rules.proofs.Hearing.{emit-keeps, segment-keeps, timer-keeps}
use Rattle.lard_rules.proofs.Loops.{KeptBySpeaking, speaks_keep}
use Rattle.lard_rules.specs.Serving.{closed_behind}
use Rattle.lard_rules.specs.Speaking.{speaks}
use Rattle.lard_segment.specs.Segment.{IsSendable, Said}
use Rattle.lard_send.specs.Send.{Sending, after_ack, after_next, after_resend, is_newer, may_send, moved_up, next_fin, next_len, symbols, windowed}
use Rattle.lard_seq.specs.Seq.{one_if, seq_offset}

-- of a sending half
pub record IsWideHalf (s : Sending) : Type 0 where
  pub wnd : s.wnd < 2 ^ 16
  pub wl1 : s.wl1 < 2 ^ 32
  pub wl2 : s.wl2 < 2 ^ 32

-- two endpoints with as wide a window
abbrev pub Widens : ControlBlock → ControlBlock → Type 0
Widens b d = IsWideHalf b.send → IsWideHalf d.send

-- ---- a segment comes

module _ (ack seq wnd : ℕ) (a : ack < 2 ^ 32) (q : seq < 2 ^ 32) (n : wnd < 2 ^ 16) where
  moved-wide : (s : Sending) (offset : ℕ) → IsWideHalf s → IsWideHalf (moved_up s offset)
  moved-wide s offset h = cond_both (nat_lt s.una offset) _ s IsWideHalf (λ t. record { wnd = h.wnd; wl1 = h.wl1; wl2 = h.wl2 }) (λ t. h)

  windowed-wide : (s : Sending) (opened : Bool) → IsWideHalf s → IsWideHalf (windowed s opened seq ack wnd)
  windowed-wide s opened h = cond_both (opened || is_newer s seq ack) _ s IsWideHalf (λ t. record { wnd = n; wl1 = q; wl2 = a }) (λ t. h)

  ack-wide : (s : Sending) → IsWideHalf s → IsWideHalf (after_ack s ack seq wnd)
  ack-wide s h =
      let all : Sending = windowed (moved_up s (seq_offset ack s.iss)) (s.una == 0) seq ack wnd in
      cond_both (nat_lt s.nxt (seq_offset ack s.iss)) s _ IsWideHalf (λ t. h)
      (λ t. cond_both ((s.una == 0) && (seq_offset ack s.iss == 0)) s all IsWideHalf (λ u. h)
      (λ u. windowed-wide (moved_up s (seq_offset ack s.iss)) (s.una == 0) (moved-wide s (seq_offset ack s.iss) h)))

-- a segment whose numbers fit their fields, whatever its data is
pub numbers-wide : (b : ControlBlock) (s : Said) → s.ack < 2 ^ 32 → s.seq < 2 ^ 32 → s.wnd < 2 ^ 16 → Widens b (on_segment b s).1
numbers-wide b s a q n h =
    let k : IsWideHalf (after_ack b.send s.ack s.seq s.wnd) = ack-wide s.ack s.seq s.wnd a q n b.send h in
    segment-keeps b s (λ d. IsWideHalf d.send) (record { rests = λ owed. h; resets = λ t. h; acks = λ owed c. k; comes = λ c some. k })

pub segment-wide : (b : ControlBlock) (s : Said) → IsSendable s → Widens b (on_segment b s).1
segment-wide b s fits h = numbers-wide b s fits.ack_fits fits.seq_fits fits.wnd_fits h

-- ---- what is said

same-wide : (s t : Sending) → t.wnd ≡ s.wnd → t.wl1 ≡ s.wl1 → t.wl2 ≡ s.wl2 → IsWideHalf s → IsWideHalf t
same-wide s t a b c h = record { wnd = subst (λ n. n < 2 ^ 16) (sym a) h.wnd; wl1 = subst (λ n. n < 2 ^ 32) (sym b) h.wl1; wl2 = subst (λ n. n < 2 ^ 32) (sym c) h.wl2 }

next-wide : (s : Sending) → IsWideHalf s → IsWideHalf (after_next s)
next-wide s h = cond_both (s.nxt == 0) (record s { nxt = 1 }) (cond (may_send s) (record s { nxt = s.nxt + next_len s + one_if (next_fin s) }) s) IsWideHalf (λ t. same-wide s (record s { nxt = 1 }) refl refl refl h)
    (λ t. cond_both (may_send s) (record s { nxt = s.nxt + next_len s + one_if (next_fin s) }) s IsWideHalf (λ u. same-wide s (record s { nxt = s.nxt + next_len s + one_if (next_fin s) }) refl refl refl h) (λ u. h))

resend-wide : (s : Sending) → IsWideHalf s → IsWideHalf (after_resend s)
resend-wide s h = cond_both (s.una == 0) (record s { nxt = max s.nxt 1 }) _ IsWideHalf (λ t. same-wide s (record s { nxt = max s.nxt 1 }) refl refl refl h)
    (λ t. cond_both (nat_lt s.una s.nxt) s _ IsWideHalf (λ u. h)
    (λ u. cond_both (nat_lt s.nxt (symbols s)) (record s { nxt = s.nxt + 1 }) s IsWideHalf (λ v. same-wide s (record s { nxt = s.nxt + 1 }) refl refl refl h) (λ v. h)))

pub emit-wide : (b : ControlBlock) → Widens b (after_emit b)
emit-wide b h = let k : IsWideHalf (after_next b.send) = next-wide b.send h in emit-keeps (λ d. IsWideHalf d.send) b h k k

pub timer-wide : (b : ControlBlock) → Widens b (after_timer b)
timer-wide b h = let k : IsWideHalf (after_resend b.send) = resend-wide b.send h in timer-keeps (λ d. IsWideHalf d.send) b h k k

speaking-wide : (c : ℕ) → KeptBySpeaking c (λ b ss d. Widens b d)
speaking-wide c = record { rests = λ b h. h; says = λ b r ss d e later h. later (emit-wide b h) }

pub speaks-wide : (c : ℕ) (b : ControlBlock) → Widens b (speaks c b).1
speaks-wide c b = speaks_keep c (λ b ss d. Widens b d) (speaking-wide c) b

-- ---- what is queued

pub closed-wide : (v : Verdict) (b : ControlBlock) → Widens b (closed_behind v b)
closed-wide v b = cond_both (closes v) (finishing (discarding_on b)) b (Widens b) (λ t h. record { wnd = h.wnd; wl1 = h.wl1; wl2 = h.wl2 }) (λ t h. h)
