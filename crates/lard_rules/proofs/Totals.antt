-- How many bytes were queued on an endpoint stays as it was while segments come and go, and when the timer fires.
use Rattle.std.proofs.Common.{◌≡◌, ℕ, refl, ◌∙◌}
use Rattle.lard_endpoint.specs.Arriving.{on_segment}
use Rattle.lard_endpoint.specs.Control.{ControlBlock}
use Rattle.lard_endpoint.specs.Leaving.{after_emit, after_timer}
use Rattle.lard_rules.proofs.Halves.{KeptBySending, endpoint-emit, endpoint-fires, endpoint-segment}
use Rattle.lard_rules.proofs.Sides.{ack-side, next-side, resend-side}
use Rattle.lard_segment.specs.Segment.{Said}

-- as many bytes were queued on one as on the other
abbrev pub HasAsMany : ControlBlock → ControlBlock → Type 0
HasAsMany b d = d.send.total ≡ b.send.total

-- so many stay so many
kept-many : (n : ℕ) → KeptBySending (λ s. s.total ≡ n)
kept-many n = record {
  acks = λ s ack seq wnd h. (ack-side s ack seq wnd).total ∙ h;
  nexts = λ s h. (next-side s).total ∙ h;
  resends = λ s h. (resend-side s).total ∙ h;
  closes = λ s h. h;
  learns = λ s irs mss h. h;
}

pub segment-many : (b : ControlBlock) (s : Said) → HasAsMany b (on_segment b s).1
segment-many b s = endpoint-segment (λ t. t.total ≡ b.send.total) (kept-many b.send.total) b s refl

pub emit-many : (b : ControlBlock) → HasAsMany b (after_emit b)
emit-many b = endpoint-emit (λ t. t.total ≡ b.send.total) (kept-many b.send.total) b refl

pub timer-many : (b : ControlBlock) → HasAsMany b (after_timer b)
timer-many b = endpoint-fires (λ t. t.total ≡ b.send.total) (kept-many b.send.total) b refl
