-- The front end's reading, block by block: how many turns are allowed does not matter, since each takes unread bytes.
use Rattle.std.proofs.Common.{ℕ, ◌+◌, ◌≤◌, List, Bool, true, false, length, cond, nat_lt, arith}
use Rattle.lard_answers.specs.Answers.{answer}
use Rattle.lard_base.specs.declared.place.Via.{Via}
use Rattle.lard_endpoint.specs.Control.{ControlBlock, finishing, discarding_on, queueing}
use Rattle.lard_rules.specs.Serving.{ServeEnv, Service, passed_over, queued, closed_behind, answered}
use Rattle.lard_request.specs.declared.verdict.Verdict.{Verdict}
use Rattle.lard_request.specs.Verdict.{closes}

abbrev pub unread : Service → List ℕ
unread w = w.block.recv.unread

-- an answer leaves no more unread than there was
closed-unread : (v : Verdict) (b : ControlBlock) → length (closed_behind v b).recv.unread ≤ length b.recv.unread
closed-unread v b = go (closes v) where
  go : (t : Bool) → length (cond t (finishing (discarding_on b)) b).recv.unread ≤ length b.recv.unread
  go true = omega arith
  go false = omega arith

pub answered-unread : (env : ServeEnv) (via : Via) (v : Verdict) (w : Service) → length (unread (answered env via v w)) ≤ length (unread w)
answered-unread env via v w = go (nat_lt env.stream (w.block.send.total + length bytes)) where
  bytes : List ℕ
  bytes = answer env.files v

  go : (over : Bool) → length (unread (cond over (passed_over env (w.block.send.total + length bytes) w) (queued env via v bytes w))) ≤ length (unread w)
  go true = omega arith
  go false = closed-unread v (queueing w.block bytes)
