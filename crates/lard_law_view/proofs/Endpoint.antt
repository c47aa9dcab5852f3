-- An endpoint sends the truth of its own stream, and hears that of its peer.
use Rattle.std.proofs.Common.{◌≡◌, ◌≤◌, ◌<◌, ◌+◌, ◌^◌, ℕ, Bool, true, false, cond, ◌==◌, not, ◌&&◌, List, [], length, Option, Some, None, IfSome, arith, ap, ◌∙◌, sym, subst, refl, ⊎_elim}
use Rattle.lard_law_view.specs.Prelude.{ControlBlock, Hears, IsBare, IsStream, IsTrueOf, Ready, Said, Sending, Speaks, Stands, Stream, ack_ready, advanced, after_emit, after_next, after_owed, after_piece, after_resend, after_timer, arrived, bare, emitted, filled, listening, next_piece, on_segment, owed_ready, owes, own_mss, peer_mss, piece_ready, rcv_nxt, rcv_wnd, ready_of, resent_piece, retried, seq_add, stream_of, timed, told}
use Rattle.lard_send.specs.declared.piece.Piece.{Piece}
use Rattle.lard_rules.proofs.Hearing.{emit-keeps, segment-keeps, timer-keeps}
use Rattle.lard_law_view.proofs.StreamHearing.{heard-begun, heard-arrived}
use Rattle.lard_law_view.proofs.Pieces.{Carries, Fair, piece_bytes, bare-true, piece_size, piece-true, syn-empty, next-carries, resent-carries}
use Rattle.lard_law_view.proofs.Speaking.{SpeaksAs, next-moves, resend-moves, speaks-begun, speaks-next, speaks-resend, speaks-ack}

-- ---- what it sends

-- an ACK alone says nothing of its bytes
ack-fair : (x : Stream) (c : ControlBlock) → Fair x (filled (told c) (ack_ready c))
ack-fair x c = (
  bare-true x (filled (told c) (ack_ready c)) (λ e. absurd (cc)) refl refl,
  record { seq_fits = omega arith; ack_fits = omega arith; wnd_fits = omega arith; some_mss = tt; small_mss = tt; small_payload = omega arith; no_ack = λ e. absurd (cc) },
)

mss-some : (b : Bool) → IfSome (own_mss b) (λ m. 1 ≤ m)
mss-some true = omega arith
mss-some false = tt

mss-small : (b : Bool) → IfSome (own_mss b) (λ m. m ≤ 1460)
mss-small true = omega arith
mss-small false = tt

seq-fits : (b : Bool) (iss n : ℕ) → iss < 2 ^ 32 → cond b iss (seq_add iss n) < 2 ^ 32
seq-fits true iss n h = h
seq-fits false iss n h = omega arith

module _ (c : ControlBlock) (bytes : List ℕ) (h : Speaks c.send bytes) where
  -- a piece's segment, whatever NXT is then
  piece-fair : (p : Piece) (n : ℕ) → Carries c.send p → Fair (stream_of c.send bytes) (filled (told (record c { send = record c.send { nxt = n } })) (piece_ready (record c { send = record c.send { nxt = n } }) p))
  piece-fair p n k =
      let size = piece_size c.send bytes p h k in
      let small = k.small in (
        is_true p.syn refl,
        record {
          seq_fits = seq-fits p.syn c.send.iss (1 + p.at) h.number;
          ack_fits = omega arith;
          wnd_fits = omega arith;
          some_mss = mss-some p.syn;
          small_mss = mss-small p.syn;
          small_payload = omega arith;
          no_ack = λ e. absurd (cc);
        },
      )
    where
      is_true : (b : Bool) → p.syn ≡ b → IsTrueOf (stream_of c.send bytes) (record {
        seq = cond b c.send.iss (seq_add c.send.iss (1 + p.at));
        ack = rcv_nxt c;
        flags = record { syn = b; ack = true; fin = p.fin; rst = false; psh = p.push };
        wnd = rcv_wnd c;
        mss = own_mss b;
        payload = piece_bytes c.send p;
      })
      is_true true e = bare-true (stream_of c.send bytes) _ (λ f. refl) (syn-empty c.send bytes p h k e) (k.alone e).1
      is_true false e = piece-true c.send bytes p h k (rcv_nxt c) (rcv_wnd c) _ None refl refl

  next-fair : (p : Piece) → Carries c.send p → Fair (stream_of c.send bytes) (filled (told (advanced c)) (piece_ready (advanced c) p))
  next-fair p k = subst (λ (t : Sending). Fair (stream_of c.send bytes) (filled (told (record c { send = t })) (piece_ready (record c { send = t }) p)))
      (sym (next-moves c.send)) (piece-fair p (after_next c.send).nxt k)

  resend-fair : (p : Piece) → Carries c.send p → Fair (stream_of c.send bytes) (filled (told (retried c)) (piece_ready (retried c) p))
  resend-fair p k = subst (λ (t : Sending). Fair (stream_of c.send bytes) (filled (told (record c { send = t })) (piece_ready (record c { send = t }) p)))
      (sym (resend-moves c.send)) (piece-fair p (after_resend c.send).nxt k)

  abbrev AllFair : Option Ready → ControlBlock → Type 0
  AllFair o d = IfSome o (λ r. Fair (stream_of c.send bytes) (filled d r))

  owed-fair : (d : ControlBlock) (b : Bool) → AllFair (cond b (Some (ack_ready d)) None) (cond b (told d) d)
  owed-fair d true = ack-fair (stream_of c.send bytes) d
  owed-fair d false = tt

  next-all : (o : Option Piece) → next_piece c.send ≡ o → AllFair (ready_of (advanced c) o (owed_ready (advanced c))) (after_piece (advanced c) o (after_owed (advanced c)))
  next-all (Some p) e = next-fair p (next-carries c.send p h.sound e)
  next-all None e = owed-fair (advanced c) (owes (advanced c))

  resend-all : (o : Option Piece) → resent_piece c.send ≡ o → AllFair (ready_of (retried c) o None) (after_piece (retried c) o (retried c))
  resend-all (Some p) e = resend-fair p (resent-carries c.send p h.sound e)
  resend-all None e = tt

  unless_reset : (b : Bool) (o : Option Ready) (d : ControlBlock) → AllFair o d → AllFair (cond b None o) (cond b c d)
  unless_reset true o d f = tt
  unless_reset false o d f = f

  pub emitted-fair : (r : Ready) → emitted c ≡ Some r → Fair (stream_of c.send bytes) (filled (after_emit c) r)
  emitted-fair r e = subst (λ (o : Option Ready). AllFair o (after_emit c)) e (unless_reset c.reset _ _ (next-all (next_piece c.send) refl))

  pub timed-fair : (r : Ready) → timed c ≡ Some r → Fair (stream_of c.send bytes) (filled (after_timer c) r)
  timed-fair r e = subst (λ (o : Option Ready). AllFair o (after_timer c)) e (unless_reset c.reset _ _ (resend-all (resent_piece c.send) refl))

  -- ---- sending changes neither stream
  abbrev Left : ControlBlock → Type 0
  Left d = Speaks d.send bytes × (stream_of d.send bytes ≡ stream_of c.send bytes) × (d.recv ≡ c.recv)

  pub emit-left : Left (after_emit c)
  emit-left = let next = speaks-next c.send bytes h in emit-keeps Left c (h, refl, refl) (next.0, next.1, refl) (next.0, next.1, refl)

  pub timer-left : Left (after_timer c)
  timer-left = let again = speaks-resend c.send bytes h in timer-keeps Left c (h, refl, refl) (again.0, again.1, refl) (again.0, again.1, refl)

-- ---- a segment arrives
pub arriving-speaks : (c : ControlBlock) (bytes : List ℕ) (s : Said) → Speaks c.send bytes → SpeaksAs c.send bytes (on_segment c s).1.send
arriving-speaks c bytes s h =
    let acked = speaks-ack c.send bytes s.ack s.seq s.wnd h in
    segment-keeps c s (λ d. SpeaksAs c.send bytes d.send) (record { rests = λ owed. (h, refl); resets = λ t. (h, refl); acks = λ owed c. acked; comes = λ c some. acked })

-- without bytes and FIN nothing is taken
bare-none : (b : Bool) (s : Said) → s.flags.fin ≡ b → IsBare s → (length s.payload == 0 && not b) ≡ true
bare-none b s e bare = ap (λ p. length p == 0 && not b) bare.0 ∙ ap not (sym e ∙ bare.1)

-- what is taken is of the text alone
pub arriving-hears : (x : Stream) (c : ControlBlock) (s : Said) → IsStream x → Hears x c.recv → IsTrueOf x s → Hears x (on_segment c s).1.recv
arriving-hears x c s is h t = segment-keeps c s (λ d. Hears x d.recv) (record { rests = λ owed. h; resets = λ t. h; acks = λ owed c. h; comes = λ counts some. text some }) where
  text : (length s.payload == 0 && not s.flags.fin) ≡ false → Hears x (arrived c.recv s.seq s.payload s.flags.fin)
  text some = ⊎_elim
      (λ (b : IsBare s). absurd (let none = bare-none s.flags.fin s refl b in cc))
      (λ (stands : Stands x s). heard-arrived x c.recv s is h stands)
      t.carries

-- ---- the beginning
pub listening-begins : (x : Stream) (s : Said) (iss : ℕ) → iss < 2 ^ 32 → s.seq ≡ x.first → Hears x (listening s iss).recv × Speaks (listening s iss).send []
listening-begins x s iss n e = (heard-begun x s.seq e, speaks-begun iss s.seq s.wnd (peer_mss s.mss) n (omega arith) (omega arith))
