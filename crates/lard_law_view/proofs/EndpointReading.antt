-- What the front end's reading leaves as it was: what was taken, what is acknowledged, and whether the peer reset the
-- connection. It goes on between the same numbers.
use Rattle.std.proofs.Common.{◌≡◌, ◌≤◌, ◌+◌, ◌^◌, ℕ, false, List, length, arith, ◌∙◌}
use Rattle.std.proofs.lemmas.Bool.{cond_both, ltb-false}
use Rattle.lard_law_view.specs.Prelude.{ControlBlock, ServeEnv, Service, Stream, Verdict, Via, answer, answered, closed_behind, closes, discarding_on, finishing, queueing}
use Rattle.lard_law_view.proofs.EndpointStreams.{IsBetween, Onward, between-discarded, onward-finished, onward-queued}
use Rattle.lard_rules.proofs.Endings.{answered-keeps}

-- as much was taken and acknowledged, and the peer reset both or neither
abbrev pub Stays : ControlBlock → ControlBlock → Type 0
Stays b d = (d.recv.got ≡ b.recv.got) × (d.recv.fin ≡ b.recv.fin) × (d.send.una ≡ b.send.una) × (d.reset ≡ b.reset)

-- an endpoint that hears w, and speaks some stream with this first number
abbrev pub Spans : Stream → ℕ → ControlBlock → Type 0
Spans w first d = (out : Stream) × (out.first ≡ first) × IsBetween w out d

-- what began as the endpoint b
module _ (w : Stream) (first : ℕ) (b : ControlBlock) where
  abbrev pub Reads : ControlBlock → Type 0
  Reads d = Stays b d × Spans w first d

  -- the stream goes on
  onward-reads : (out : Stream) (bytes : List ℕ) (d : ControlBlock) → out.first ≡ first → Stays b d → Onward w out bytes d → Reads d
  onward-reads out bytes d f stays o = (stays, (o.next, o.longer.first ∙ f, o.between))

  -- the FIN is to follow
  finished-reads : (d : ControlBlock) → Reads d → Reads (finishing d)
  finished-reads d h = onward-reads h.1.0 h.1.0.bytes (finishing d) h.1.1 h.0 (onward-finished w h.1.0 d h.1.2)

  -- behind an answer that closes what comes is discarded, and the FIN follows
  closed-reads : (v : Verdict) (d : ControlBlock) → Reads d → Reads (closed_behind v d)
  closed-reads v d h = cond_both (closes v) (finishing (discarding_on d)) d Reads
      (λ _. finished-reads (discarding_on d) (h.0, (h.1.0, h.1.1, between-discarded w h.1.0 d h.1.2)))
      (λ _. h)

  -- bytes are to follow
  queued-reads : (bytes : List ℕ) (d : ControlBlock) → d.send.finished ≡ false → d.send.total + length bytes ≤ 2 ^ 30 → Reads d → Reads (queueing d bytes)
  queued-reads bytes d open_ le h =
      let count : length h.1.0.bytes ≡ d.send.total = h.1.2.speaks.part.count in
      let next = onward-queued w h.1.0 d h.1.2 bytes open_ (omega arith) in
      (h.0, (next.next, next.longer.first ∙ h.1.1, next.between))

  module _ (env : ServeEnv) (most : env.stream ≤ 2 ^ 30) where
    -- a verdict is answered
    pub answered-reads : (via : Via) (v : Verdict) (s : Service) → s.block.send.finished ≡ false → Reads s.block → Reads (answered env via v s).block
    answered-reads via v s open_ h =
        let bytes = answer env.files v in
        let total = s.block.send.total + length bytes in
        answered-keeps (λ (z : Service). Reads z.block) env via v s (λ _. h)
        (λ t. let le : total ≤ env.stream = ltb-false env.stream total t in closed-reads v (queueing s.block bytes) (queued-reads bytes s.block open_ (omega arith) h))
