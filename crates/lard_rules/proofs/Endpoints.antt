-- An endpoint stays sound as it begins, as it reads on, and as it closes.
use Rattle.std.proofs.Common.{ℕ, refl, arith, length-drop}
use Rattle.std.proofs.lemmas.Bool.{cond_both}
use Rattle.lard_endpoint.specs.Control.{ControlBlock, IsControlBlock, consuming, discarding_on, finishing, listening}
use Rattle.lard_request.specs.declared.verdict.Verdict.{Verdict}
use Rattle.lard_request.specs.Verdict.{closes}
use Rattle.lard_rules.specs.Serving.{closed_behind}
use Rattle.lard_rules.proofs.Saying.{one_if-most}
use Rattle.lard_segment.specs.Segment.{Said}

pub listening-sound : (syn : Said) (iss : ℕ) → IsControlBlock (listening syn iss)
listening-sound syn iss = record {
  received = record { received = omega arith; buffered = omega arith; within = omega arith; dropped = λ e. omega arith };
  sending = record { sent = omega arith; queued = omega arith; kept = omega arith; most = omega arith; some_mss = omega arith; small_mss = omega arith };
  same_irs = refl;
}

pub finishing-sound : (b : ControlBlock) → IsControlBlock b → IsControlBlock (finishing b)
finishing-sound b h =
    let s = h.sending in
    let few = one_if-most b.send.finished in
    let sent = s.queued in
    record { received = h.received; sending = record { sent = s.sent; queued = omega (arith, few, sent); kept = s.kept; most = s.most; some_mss = s.some_mss; small_mss = s.small_mss }; same_irs = h.same_irs }

discarding-sound : (b : ControlBlock) → IsControlBlock b → IsControlBlock (discarding_on b)
discarding-sound b h = record { received = record { received = h.received.received; buffered = omega arith; within = omega arith; dropped = λ e. omega arith }; sending = h.sending; same_irs = h.same_irs }

pub consuming-sound : (b : ControlBlock) (n : ℕ) → IsControlBlock b → IsControlBlock (consuming b n)
consuming-sound b n h =
    let r = h.received in
    let less = length-drop n b.recv.unread in
    record {
      received = record { received = r.received; buffered = omega (arith, less, r.buffered); within = omega (arith, less, r.within); dropped = λ e. omega (arith, less, r.dropped e) };
      sending = h.sending;
      same_irs = h.same_irs;
    }

pub closed-sound : (v : Verdict) (b : ControlBlock) → IsControlBlock b → IsControlBlock (closed_behind v b)
closed-sound v b h = cond_both (closes v) (finishing (discarding_on b)) b IsControlBlock (λ t. finishing-sound (discarding_on b) (discarding-sound b h)) (λ t. h)
