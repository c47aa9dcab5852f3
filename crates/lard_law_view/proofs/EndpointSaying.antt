-- What an endpoint sends acknowledges what it took, and no more; and sending moves neither.
use Rattle.std.proofs.Common.{◌≡◌, ℕ, List, [], ◌∷◌, ◌++◌, Some, arith, refl, ap, ◌∙◌, subst}
use Rattle.lard_law_view.specs.Prelude.{ControlBlock, IsSendable, Place, Ready, Sending, Stream, advanced, after_emit, after_timer, emits, emits_symbols, emitted, filled, rcv_nxt, retried, seq_add, timed, to_client}
use Rattle.lard_endpoint.proofs.Windows.{emitted-tells, timed-tells}
use Rattle.lard_law_view.proofs.EndpointStreams.{IsBetween, between-emitted}
use Rattle.lard_law_view.proofs.EndpointSpeaking.{emits-all, emits_symbols-all}
use Rattle.lard_law_view.proofs.Acked.{Acks, RepliesMay, ReplyMay, heard_by}
use Rattle.lard_law_view.proofs.Endpoint.{emitted-fair, timed-fair}
use Rattle.lard_law_view.proofs.Speaking.{next-moves, resend-moves}
use Rattle.lard_rules.proofs.Hearing.{emit-keeps, timer-keeps}

-- ---- what is acknowledged

-- RCV.NXT acknowledges what was taken
pub awaits-acks : (w out : Stream) (b : ControlBlock) → IsBetween w out b → Acks w.first (heard_by b.recv) (rcv_nxt b)
awaits-acks w out b h = (heard_by b.recv, ap (λ i. seq_add i (heard_by b.recv)) h.hears.first, omega arith)

-- ---- what sending leaves as it was

-- the receiving half, what is acknowledged, and whether the peer reset the connection
abbrev pub Left : ControlBlock → ControlBlock → Type 0
Left b d = (d.recv ≡ b.recv) × (d.send.una ≡ b.send.una) × (d.reset ≡ b.reset)

-- what is emitted leaves them
pub emit-left : (b : ControlBlock) → Left b (after_emit b)
emit-left b = let sent : Left b (advanced b) = (refl, ap (λ (s : Sending). s.una) (next-moves b.send), refl) in emit-keeps (Left b) b (refl, refl, refl) sent sent

-- and so does what the timer sends
pub timer-left : (b : ControlBlock) → Left b (after_timer b)
timer-left b = let sent : Left b (retried b) = (refl, ap (λ (s : Sending). s.una) (resend-moves b.send), refl) in timer-keeps (Left b) b (refl, refl, refl) sent sent

-- ---- a turn's segments

-- those of two lists
pub replies_may-append : (c isn heard : ℕ) (ps qs : List (Place × List ℕ)) → RepliesMay c isn heard ps → RepliesMay c isn heard qs → RepliesMay c isn heard (ps ++ qs)
replies_may-append c isn heard [] qs h k = k
replies_may-append c isn heard (p ∷ ps) qs h k = (h.0, replies_may-append c isn heard ps qs h.1 k)

-- a segment that an endpoint emits can be sent, and acknowledges what the endpoint took
emitted-may : (w out : Stream) (b : ControlBlock) (r : Ready) → IsBetween w out b → emitted b ≡ Some r
    → IsSendable (filled (after_emit b) r) × ReplyMay w.first (heard_by b.recv) (filled (after_emit b) r)
emitted-may w out b r h e =
    let at : r.ack.0 ≡ rcv_nxt b = (emitted-tells b r e).ack in
    let acks = awaits-acks w out b h in (
      (emitted-fair b out.bytes h.speaks r e).1,
      λ _. (acks.0, at ∙ acks.1, acks.2),
    )

-- and so does what its timer sends
pub timed-may : (w out : Stream) (b : ControlBlock) (r : Ready) → IsBetween w out b → timed b ≡ Some r
    → IsSendable (filled (after_timer b) r) × ReplyMay w.first (heard_by b.recv) (filled (after_timer b) r)
timed-may w out b r h e =
    let at : r.ack.0 ≡ rcv_nxt b = (timed-tells b r e).ack in
    let acks = awaits-acks w out b h in (
      (timed-fair b out.bytes h.speaks r e).1,
      λ _. (acks.0, at ∙ acks.1, acks.2),
    )

-- what goes out acknowledges what the endpoint took, and leaves that as it was
pub record Spoke (c : ℕ) (w out : Stream) (b : ControlBlock) (given : List (Place × List ℕ) × ControlBlock) : Type 0 where
  pub sent : RepliesMay c w.first (heard_by b.recv) given.0
  pub between : IsBetween w out given.1
  pub left : Left b given.1

module _ (c : ℕ) (w out : Stream) where
  abbrev Speaks_on : ControlBlock → List (Place × List ℕ) × ControlBlock → Type 0
  Speaks_on b given = Spoke c w out b given

  -- nothing is said
  silent-spoke : (b : ControlBlock) → IsBetween w out b → Speaks_on b ([], b)
  silent-spoke b h = record { sent = tt; between = h; left = (refl, refl, refl) }

  -- one segment, and those after it
  more-spoke : (b : ControlBlock) (r : Ready) (later : List (Place × List ℕ) × ControlBlock) → IsBetween w out b → emitted b ≡ Some r → Speaks_on (after_emit b) later
      → Speaks_on b (to_client c (after_emit b) r ∷ later.0, later.1)
  more-spoke b r later h e k =
      let may = emitted-may w out b r h e in
      let first = emit-left b in
      let rest = k.left in
      record {
        sent = ((refl, (filled (after_emit b) r, refl, may.0, may.1)), subst (λ (n : ℕ). RepliesMay c w.first n later.0) (ap heard_by first.0) k.sent);
        between = k.between;
        left = (rest.0 ∙ first.0, rest.1 ∙ first.1, rest.2 ∙ first.2);
      }

  -- a plain ACK that is not sent
  cut-spoke : (b : ControlBlock) → IsBetween w out b → Speaks_on b ([], after_emit b)
  cut-spoke b h = record { sent = tt; between = between-emitted w out b h; left = emit-left b }

  -- all that an endpoint emits
  pub emits-spoke : (n : ℕ) (b : ControlBlock) → IsBetween w out b → Speaks_on b (emits c n b)
  emits-spoke n b h = emits-all c (IsBetween w out) Speaks_on (between-emitted w out) silent-spoke more-spoke cut-spoke n b h

  -- all that it emits as long as each segment sends a symbol
  pub emits_symbols-spoke : (n : ℕ) (b : ControlBlock) → IsBetween w out b → Speaks_on b (emits_symbols c n b)
  emits_symbols-spoke n b h = emits_symbols-all c (IsBetween w out) Speaks_on (between-emitted w out) silent-spoke more-spoke cut-spoke n b h
