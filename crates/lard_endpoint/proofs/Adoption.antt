-- The parts of a frozen endpoint, and what is adopted from them.
use Rattle.std.proofs.Common.{◌≡◌, ℕ, ◌+◌, ◌-◌, ◌≤◌, min, true, false, not, ◌&&◌, [], length, arith, ap, sym, subst}
use Rattle.std.proofs.lemmas.Bool.{and_parts, not-true, eqb-true}
use Rattle.std.proofs.lemmas.List.{nil_from_length}
use Rattle.lard_base.specs.declared.parts.EndpointParts.{EndpointParts}
use Rattle.lard_base.specs.Parts.{IsValidParts}
use Rattle.lard_send.specs.Send.{symbols, is_clear}
use Rattle.lard_seq.specs.Seq.{one_if}
use Rattle.lard_endpoint.specs.Control.{ControlBlock, IsControlBlock}
use Rattle.lard_endpoint.specs.Moving.{may_freeze, parts_of}

-- what may be frozen: all is acknowledged, and nothing ends it
pub record Stands (c : ControlBlock) : Type 0 where
  pub una_is : c.send.una ≡ 1 + c.send.total
  pub nxt_is : c.send.nxt ≡ c.send.una
  pub rest_is : c.send.rest ≡ []
  pub finished_is : c.send.finished ≡ false
  pub discarding_is : c.recv.discarding ≡ false
  pub reset_is : c.reset ≡ false

pub frozen_stands : (c : ControlBlock) → IsControlBlock c → may_freeze c ≡ true → Stands c
frozen_stands c h m =
    let both = and_parts (is_clear c.send && not c.send.finished) (not c.recv.discarding && not c.reset) m in
    let send = and_parts (is_clear c.send) (not c.send.finished) both.0 in
    let recv = and_parts (not c.recv.discarding) (not c.reset) both.1 in
    let finished : c.send.finished ≡ false = not-true c.send.finished send.1 in
    let whole : c.send.una ≡ symbols c.send = eqb-true c.send.una (symbols c.send) send.0 in
    let none : one_if c.send.finished ≡ 0 = ap one_if finished in
    let una : c.send.una ≡ 1 + c.send.total = omega arith in
    let most : c.send.nxt ≤ symbols c.send = h.sending.queued in
    let kept : length c.send.rest + min (c.send.una - 1) c.send.total ≡ c.send.total = h.sending.kept in
    let sent : c.send.una ≤ c.send.nxt = h.sending.sent in
    record {
      una_is = una;
      nxt_is = omega arith;
      rest_is = nil_from_length c.send.rest (omega arith);
      finished_is = finished;
      discarding_is = not-true c.recv.discarding recv.0;
      reset_is = not-true c.reset recv.1;
    }

pub parts-valid : (c : ControlBlock) (served : ℕ) → IsControlBlock c → may_freeze c ≡ true → served ≤ c.recv.got - length c.recv.unread → IsValidParts (parts_of c served)
parts-valid c served h m le =
    let s = frozen_stands c h m in
    let una : c.send.una ≡ 1 + c.send.total = s.una_is in
    record {
      buffered = h.received.buffered;
      within = h.received.within;
      received = h.received.received;
      syn_acknowledged = omega arith;
      acknowledged = let most = h.sending.most in omega arith;
      some_mss = h.sending.some_mss;
      small_mss = h.sending.small_mss;
      answered = le;
    }

-- parts that are those of a frozen endpoint
pub parts_as-valid : (p : EndpointParts) (c : ControlBlock) (served : ℕ) → p ≡ parts_of c served → IsControlBlock c → may_freeze c ≡ true → served ≤ c.recv.got - length c.recv.unread → IsValidParts p
parts_as-valid p c served e h m le = subst IsValidParts (sym e) (parts-valid c served h m le)
