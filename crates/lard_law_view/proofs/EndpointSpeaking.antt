-- What the front end sends at the end of its turn: true replies, call by call, and the streams stay as they were.
use Rattle.std.proofs.Common.{◌≡◌, ◌≤◌, ◌+◌, ℕ, zero, suc, Bool, false, cond, List, [], ◌∷◌, length, Option, Some, None, arith, refl, ap, ◌∙◌, sym, subst}
use Rattle.std.proofs.lemmas.Bool.{cond_both}
use Rattle.lard_law_view.specs.Prelude.{AreReplies, ControlBlock, IsReply, Place, Ready, Said, Stream, after_emit, after_timer, emits, emits_symbols, emitted, filled, has_symbol, one_if, rcv_nxt, seq_add, timed, to_client}
use Rattle.lard_endpoint.proofs.Windows.{emitted-tells, timed-tells}
use Rattle.lard_law_view.proofs.EndpointStreams.{IsBetween, between-emitted}
use Rattle.lard_law_view.proofs.Endpoint.{emitted-fair, timed-fair, emit-left}
use Rattle.lard_law_view.proofs.Pieces.{Fair}
use Rattle.lard_law_view.proofs.Speaking.{one_small}

-- ---- what is acknowledged

-- a segment has RCV.NXT, and is no RST
abbrev Acknowledges : ControlBlock → Ready → Type 0
Acknowledges b r = (r.ack.0 ≡ rcv_nxt b) × (r.flags.rst ≡ false)

-- RCV.NXT is no further than the client's FIN
pub awaits-within : (w out : Stream) (b : ControlBlock) → IsBetween w out b → (n : ℕ) × (rcv_nxt b ≡ seq_add w.first n) × (n ≤ 2 + length w.bytes)
awaits-within w out b h =
    let n = 1 + b.recv.got + one_if b.recv.fin in
    let within = h.hears.within in
    let one = one_small b.recv.fin in
    (n, ap (λ i. seq_add i n) h.hears.first, omega arith)

-- ---- a segment

module _ (c : ℕ) (w out : Stream) (was_reset : Bool) where
  reply-of : (b : ControlBlock) (r : Ready) (s : Said) → IsBetween w out b → s.ack ≡ r.ack.0 → s.flags ≡ r.flags → Acknowledges b r → Fair out s → IsReply w out was_reset s
  reply-of b r s h ack flags k fair =
      let far = awaits-within w out b h in
      record {
        sendable = fair.1;
        true_of = fair.0;
        acks = λ _. (far.0, ack ∙ k.0 ∙ far.1, far.2);
        resets = λ e. absurd (let plain : s.flags.rst ≡ false = ap (λ f. f.rst) flags ∙ k.1 in cc);
      }

  emitted-reply : (b : ControlBlock) (r : Ready) → IsBetween w out b → emitted b ≡ Some r → IsReply w out was_reset (filled (after_emit b) r)
  emitted-reply b r h e = reply-of b r (filled (after_emit b) r) h refl refl
      (let tells = emitted-tells b r e in (tells.ack, tells.no_rst))
      (subst (λ (x : Stream). Fair x (filled (after_emit b) r)) (sym h.out_is) (emitted-fair b out.bytes h.speaks r e))

  pub timed-reply : (b : ControlBlock) (r : Ready) → IsBetween w out b → timed b ≡ Some r → IsReply w out was_reset (filled (after_timer b) r)
  timed-reply b r h e = reply-of b r (filled (after_timer b) r) h refl refl
      (let tells = timed-tells b r e in (tells.ack, tells.no_rst))
      (subst (λ (x : Stream). Fair x (filled (after_timer b) r)) (sym h.out_is) (timed-fair b out.bytes h.speaks r e))

-- ---- call by call

-- What is so of what goes out, and of the endpoint after it, by what is so where nothing goes out, and where a segment goes
-- out before the others. It may rest on what every call keeps.
module _ (c : ℕ) (Sound : ControlBlock → Type 0) (Is : ControlBlock → List (Place × List ℕ) × ControlBlock → Type 0)
    (keeps : (b : ControlBlock) → Sound b → Sound (after_emit b)) (silent : (b : ControlBlock) → Sound b → Is b ([], b))
    (more : (b : ControlBlock) (r : Ready) (later : List (Place × List ℕ) × ControlBlock) → Sound b → emitted b ≡ Some r → Is (after_emit b) later
    → Is b (to_client c (after_emit b) r ∷ later.0, later.1))
    (cut : (b : ControlBlock) → Sound b → Is b ([], after_emit b)) where
  pub emits-all : (n : ℕ) (b : ControlBlock) → Sound b → Is b (emits c n b)
  unfolding emits
  emits-all zero b h = silent b h
  emits-all (suc n) b h = go (emits-all n (after_emit b) (keeps b h)) (emitted b) refl where
    go : Is (after_emit b) (emits c n (after_emit b)) → (o : Option Ready) → emitted b ≡ o
        → Is b (elim o [ None ↦ ([], b) | Some r ↦ (to_client c (after_emit b) r ∷ (emits c n (after_emit b)).0, (emits c n (after_emit b)).1) ])
    go later None e = silent b h
    go later (Some r) e = more b r (emits c n (after_emit b)) h e later

  -- as long as each segment sends a symbol
  pub emits_symbols-all : (n : ℕ) (b : ControlBlock) → Sound b → Is b (emits_symbols c n b)
  unfolding emits_symbols
  emits_symbols-all zero b h = silent b h
  emits_symbols-all (suc n) b h = go (emits_symbols-all n (after_emit b) (keeps b h)) (emitted b) refl where
    go : Is (after_emit b) (emits_symbols c n (after_emit b)) → (o : Option Ready) → emitted b ≡ o
        → Is b (elim o [
          | None ↦ ([], b)
          | Some r ↦ cond (has_symbol r) (to_client c (after_emit b) r ∷ (emits_symbols c n (after_emit b)).0, (emits_symbols c n (after_emit b)).1) ([], after_emit b)
        ])
    go later None e = silent b h
    go later (Some r) e =
        cond_both (has_symbol r) (to_client c (after_emit b) r ∷ (emits_symbols c n (after_emit b)).0, (emits_symbols c n (after_emit b)).1) ([], after_emit b) (Is b)
        (λ _. more b r (emits_symbols c n (after_emit b)) h e later)
        (λ _. cut b h)

-- what goes out are true replies, and the endpoint has read what it had
pub record Spoke (c : ℕ) (w out : Stream) (was_reset : Bool) (b : ControlBlock) (given : List (Place × List ℕ) × ControlBlock) : Type 0 where
  pub sent : AreReplies c w out was_reset given.0
  pub between : IsBetween w out given.1
  pub recv : given.1.recv ≡ b.recv

module _ (c : ℕ) (w out : Stream) (was_reset : Bool) where
  abbrev Speaks_on : ControlBlock → List (Place × List ℕ) × ControlBlock → Type 0
  Speaks_on b given = Spoke c w out was_reset b given

  silent-spoke : (b : ControlBlock) → IsBetween w out b → Speaks_on b ([], b)
  silent-spoke b h = record { sent = tt; between = h; recv = refl }

  -- one segment, and those after it
  more-spoke : (b : ControlBlock) (r : Ready) (later : List (Place × List ℕ) × ControlBlock) → IsBetween w out b → emitted b ≡ Some r → Speaks_on (after_emit b) later
      → Speaks_on b (to_client c (after_emit b) r ∷ later.0, later.1)
  more-spoke b r later h e k = record {
    sent = (refl, (filled (after_emit b) r, refl, emitted-reply c w out was_reset b r h e), k.sent);
    between = k.between;
    recv = k.recv ∙ (emit-left b out.bytes h.speaks).2;
  }

  -- a plain ACK that is not sent
  cut-spoke : (b : ControlBlock) → IsBetween w out b → Speaks_on b ([], after_emit b)
  cut-spoke b h = record { sent = tt; between = between-emitted w out b h; recv = (emit-left b out.bytes h.speaks).2 }

  pub emits-spoke : (n : ℕ) (b : ControlBlock) → IsBetween w out b → Speaks_on b (emits c n b)
  emits-spoke n b h = emits-all c (IsBetween w out) Speaks_on (between-emitted w out) silent-spoke more-spoke cut-spoke n b h

  pub emits_symbols-spoke : (n : ℕ) (b : ControlBlock) → IsBetween w out b → Speaks_on b (emits_symbols c n b)
  emits_symbols-spoke n b h = emits_symbols-all c (IsBetween w out) Speaks_on (between-emitted w out) silent-spoke more-spoke cut-spoke n b h
