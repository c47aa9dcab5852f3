-- A client sends the truth of its own stream, which goes on as it writes and as segments come.
use Rattle.std.proofs.Common.{◌≡◌, ◌≤◌, ◌<◌, ◌+◌, ◌^◌, ℕ, Bool, true, false, cond, not, ◌&&◌, ◌||◌, List, [], ◌++◌, length, Option, Some, None, IfSome, arith, sym, subst, refl}
use Rattle.std.proofs.lemmas.Bool.{cond_both, and_parts, not-true}
use Rattle.lard_law_view.specs.Prelude.{Accepts, ClientBlock, GoesOn, IsClientBlock, Phase, Ready, Said, Sending, Speaks, Stream, abort_ready, aborted, accepting, after_ack, after_next, after_resend, client_ack_ready, client_after_emit, client_after_owed, client_after_piece, client_after_timer, client_arrived, client_emitted, client_ends, client_filled, client_opened, client_owed_ready, client_owes, client_piece_ready, client_rcv_nxt, client_rcv_wnd, client_ready_of, client_refusal, client_taken, client_timed, client_told, client_written, data_ready, established, fresh_len, heard_in, heard_open, held_on, introduced, is_client_open, is_established, is_writing, next_piece, peer_mss, queued_too, resent_piece, reset_ready, send_closed, shut_down, stream_of, syn_ready}
use Rattle.lard_client.specs.declared.phase.Phase.TheVariants.{Open, Aborted, Reset}
use Rattle.lard_client.proofs.Accepted.{no_reply}
use Rattle.lard_send.specs.declared.piece.Piece.{Piece}
use Rattle.lard_rules.proofs.Hearing.{acked, arrived-keeps, client-emit-keeps, client-timer-keeps}
use Rattle.lard_law_view.proofs.Pieces.{Carries, Fair, bare-true, piece_size, piece-true, next-carries, resent-carries}
use Rattle.lard_law_view.proofs.Speaking.{SpeaksAs, Continues, next-moves, resend-moves, speaks-begun, speaks-next, speaks-resend, speaks-ack, speaks-introduced, speaks-queued, speaks-closed, continues-as, continues-behind}

-- ---- what it sends

-- an ACK alone says nothing of its bytes, nor does a reset
ack-fair : (x : Stream) (b : ClientBlock) → b.wnd < 2 ^ 16 → Fair x (client_filled (client_told b) (client_ack_ready b))
ack-fair x b w = (
  bare-true x (client_filled (client_told b) (client_ack_ready b)) (λ e. absurd (cc)) refl refl,
  record { seq_fits = omega arith; ack_fits = omega arith; wnd_fits = omega arith; some_mss = tt; small_mss = tt; small_payload = omega arith; no_ack = λ e. absurd (cc) },
)

reset-fair : (x : Stream) (b d : ClientBlock) → Fair x (client_filled d (reset_ready b))
reset-fair x b d = (
  bare-true x (client_filled d (reset_ready b)) (λ e. absurd (cc)) refl refl,
  record { seq_fits = omega arith; ack_fits = omega arith; wnd_fits = omega arith; some_mss = tt; small_mss = tt; small_payload = omega arith; no_ack = λ e. absurd (cc) },
)

refusal-fair : (x : Stream) (b d : ClientBlock) (ack : ℕ) → ack < 2 ^ 32 → Fair x (client_filled d (client_refusal b ack))
refusal-fair x b d ack n = (
  bare-true x (client_filled d (client_refusal b ack)) (λ e. absurd (cc)) refl refl,
  record { seq_fits = n; ack_fits = omega arith; wnd_fits = omega arith; some_mss = tt; small_mss = tt; small_payload = omega arith; no_ack = λ e. refl },
)

module _ (b : ClientBlock) (bytes : List ℕ) (sound : IsClientBlock b) (wide : b.wnd < 2 ^ 16) (h : Speaks b.send bytes) where
  -- a piece's segment, whatever NXT is then
  piece-fair : (p : Piece) (n : ℕ) → Carries b.send p → Fair (stream_of b.send bytes) (client_filled (client_told (record b { send = record b.send { nxt = n } })) (client_piece_ready b p))
  piece-fair p n k = go p.syn refl where
    go : (syn : Bool) → p.syn ≡ syn → Fair (stream_of b.send bytes) (client_filled (client_told (record b { send = record b.send { nxt = n } })) (cond syn (syn_ready b) (data_ready b p)))
    go true e = (
      bare-true (stream_of b.send bytes) _ (λ f. refl) refl refl,
      record { seq_fits = h.number; ack_fits = omega arith; wnd_fits = omega arith; some_mss = sound.some_mss; small_mss = sound.small_mss; small_payload = omega arith; no_ack = λ f. refl },
    )
    go false e =
        let size = piece_size b.send bytes p h k in
        let small = k.small in (
          piece-true b.send bytes p h k (client_rcv_nxt b) (client_rcv_wnd b) _ None refl refl,
          record { seq_fits = omega arith; ack_fits = omega arith; wnd_fits = omega arith; some_mss = tt; small_mss = tt; small_payload = omega arith; no_ack = λ f. absurd (cc) },
        )

  next-fair : (p : Piece) → Carries b.send p → Fair (stream_of b.send bytes) (client_filled (client_told (record b { send = after_next b.send })) (client_piece_ready b p))
  next-fair p k = subst (λ (t : Sending). Fair (stream_of b.send bytes) (client_filled (client_told (record b { send = t })) (client_piece_ready b p)))
      (sym (next-moves b.send)) (piece-fair p (after_next b.send).nxt k)

  resend-fair : (p : Piece) → Carries b.send p → Fair (stream_of b.send bytes) (client_filled (client_told (record b { send = after_resend b.send })) (client_piece_ready b p))
  resend-fair p k = subst (λ (t : Sending). Fair (stream_of b.send bytes) (client_filled (client_told (record b { send = t })) (client_piece_ready b p)))
      (sym (resend-moves b.send)) (piece-fair p (after_resend b.send).nxt k)

  abbrev AllFair : Option Ready → ClientBlock → Type 0
  AllFair o d = IfSome o (λ r. Fair (stream_of b.send bytes) (client_filled d r))

  owed-fair : (owed : Bool) → AllFair (cond owed (Some (client_ack_ready b)) None) (cond owed (client_told b) b)
  owed-fair true = ack-fair (stream_of b.send bytes) b wide
  owed-fair false = tt

  next-all : (o : Option Piece) → next_piece b.send ≡ o → AllFair (client_ready_of b o (client_owed_ready b)) (client_after_piece (record b { send = after_next b.send }) o (client_after_owed b))
  next-all (Some p) e = next-fair p (next-carries b.send p h.sound e)
  next-all None e = owed-fair (client_owes b)

  resend-all : (o : Option Piece) → resent_piece b.send ≡ o → AllFair (client_ready_of b o None) (client_after_piece (record b { send = after_resend b.send }) o b)
  resend-all (Some p) e = resend-fair p (resent-carries b.send p h.sound e)
  resend-all None e = tt

  if_open : (closed_ : Bool) (o : Option Ready) (d : ClientBlock) → AllFair o d → AllFair (cond closed_ None o) (cond closed_ b d)
  if_open true o d f = tt
  if_open false o d f = f

  pub emitted-fair : (r : Ready) → client_emitted b ≡ Some r → Fair (stream_of b.send bytes) (client_filled (client_after_emit b) r)
  emitted-fair r e = subst (λ (o : Option Ready). AllFair o (client_after_emit b)) e (if_open (not (is_client_open b)) _ _ (next-all (next_piece b.send) refl))

  pub timed-fair : (r : Ready) → client_timed b ≡ Some r → Fair (stream_of b.send bytes) (client_filled (client_after_timer b) r)
  timed-fair r e = subst (λ (o : Option Ready). AllFair o (client_after_timer b)) e (if_open (not (is_client_open b)) _ _ (resend-all (resent_piece b.send) refl))

pub abort-fair : (x : Stream) (b : ClientBlock) (r : Ready) → abort_ready b ≡ Some r → Fair x (client_filled (aborted b) r)
abort-fair x b r e =
    let P : Option Ready → Type 0 = λ o. IfSome o (λ q. Fair x (client_filled (aborted b) q)) in
    subst P e (cond_both (is_client_open b && is_established b) (Some (reset_ready b)) None P (λ t. reset-fair x b (aborted b)) (λ t. tt))

-- a reply, which only an aborted client gives
phase-reply : (x : Stream) (p : Phase) (b : ClientBlock) (s : Said) → s.ack < 2 ^ 32 → IfSome (heard_in p b s).0.reply (λ r. Fair x (client_filled (heard_in p b s).1 r))
phase-reply x Open b s n = no_reply b s (heard_open b s).0 (heard_open b s).1 (λ r. Fair x (client_filled (heard_open b s).1 r)) refl
phase-reply x Aborted b s n = cond_both (s.flags.ack && not s.flags.rst) (Some (client_refusal b s.ack)) None (λ (o : Option Ready). IfSome o (λ r. Fair x (client_filled b r)))
    (λ t. refusal-fair x b b s.ack n) (λ t. tt)
phase-reply x Reset b s n = tt

pub reply-fair : (x : Stream) (b : ClientBlock) (s : Said) (r : Ready) → s.ack < 2 ^ 32 → (client_arrived b s).0.reply ≡ Some r → Fair x (client_filled (client_arrived b s).1 r)
unfolding client_arrived
reply-fair x b s r n e = subst (λ (o : Option Ready). IfSome o (λ q. Fair x (client_filled (heard_in b.phase b s).1 q))) e (phase-reply x b.phase b s n)

-- ---- sending changes neither stream
accepts-unsent : (x : Stream) (b : ClientBlock) (n : ℕ) → Accepts x b → Accepts x (record b { send = record b.send { nxt = n } })
accepts-unsent x b n a = record { first = a.first; within = a.within; final = a.final }

module _ (x : Stream) (b : ClientBlock) (bytes : List ℕ) (h : Speaks b.send bytes) (a : Accepts x b) where
  abbrev Left : ClientBlock → Type 0
  Left d = Speaks d.send bytes × (stream_of d.send bytes ≡ stream_of b.send bytes) × Accepts x d

  told-left : (d : ClientBlock) → Left d → Left (client_told d)
  told-left d l = (l.0, l.1, record { first = l.2.first; within = l.2.within; final = l.2.final })

  sent-left : (t : Sending) (n : ℕ) → t ≡ record b.send { nxt = n } → SpeaksAs b.send bytes t → Left (record b { send = t })
  sent-left t n e s = (s.0, s.1, subst (λ (z : Sending). Accepts x (record b { send = z })) (sym e) (accepts-unsent x b n a))

  pub emit-left : Left (client_after_emit b)
  emit-left =
      let next : ClientBlock = record b { send = after_next b.send } in
      let sent : Left next = sent-left (after_next b.send) (after_next b.send).nxt (next-moves b.send) (speaks-next b.send bytes h) in
      client-emit-keeps Left b (h, refl, a) (told-left b (h, refl, a)) (told-left next sent)

  pub timer-left : Left (client_after_timer b)
  timer-left =
      let next : ClientBlock = record b { send = after_resend b.send } in
      let sent : Left next = sent-left (after_resend b.send) (after_resend b.send).nxt (resend-moves b.send) (speaks-resend b.send bytes h) in
      client-timer-keeps Left b (h, refl, a) (told-left next sent)

-- ---- a segment arrives
still : (b : ClientBlock) (bytes : List ℕ) → Speaks b.send bytes → Continues b.send bytes b.send
still b bytes h = continues-as b.send b.send bytes (h, refl)

-- the cluster's SYN
established-continues : (b : ClientBlock) (bytes : List ℕ) (s : Said) → Speaks b.send bytes → Continues b.send bytes (established b s).send
established-continues b bytes s h =
    let met = introduced b.send s.seq (peer_mss s.mss) in
    let send = after_ack met s.ack s.seq s.wnd in
    let learnt = speaks-introduced b.send bytes s.seq (peer_mss s.mss) (omega arith) (omega arith) h in
    continues-behind b.send met send bytes learnt (continues-as met send bytes (speaks-ack met bytes s.ack s.seq s.wnd learnt.0))

pub arriving-continues : (b : ClientBlock) (bytes : List ℕ) (s : Said) → Speaks b.send bytes → Continues b.send bytes (client_arrived b s).1.send
arriving-continues b bytes s h = arrived-keeps b s (λ r. Continues b.send bytes r.1.send) (record {
  refuses = λ e. still b bytes h;
  ignores = λ e. still b bytes h;
  learns = λ e t plain. established-continues b bytes s h;
  takes = λ e. record {
    rests = λ owed. still b bytes h;
    resets = λ t. still b bytes h;
    acks = λ owed c. continues-as b.send (acked b s owed).send bytes kept;
    accepts = λ c in_order going.
        let y : ClientBlock = acked b s true in
        -- a FIN that is taken finishes its own side
        continues-behind b.send y.send (accepting y (fresh_len y s) (client_ends y s)).send bytes kept
        (cond_both (client_ends y s) (send_closed y.send) y.send (Continues y.send bytes) (λ u. speaks-closed y.send bytes kept.0) (λ u. still y bytes kept.0));
  };
}) where
  kept : SpeaksAs b.send bytes (after_ack b.send s.ack s.seq s.wnd)
  kept = speaks-ack b.send bytes s.ack s.seq s.wnd h

-- ---- the beginning, and its owner's calls
pub opening-begins : (x : Stream) (c isn wnd mss : ℕ) → isn < 2 ^ 32 → Accepts x (client_opened c isn wnd mss) × Speaks (client_opened c isn wnd mss).send []
opening-begins x c isn wnd mss n = (
  record { first = λ e. absurd (cc); within = omega arith; final = λ e. absurd (cc) },
  speaks-begun isn 0 0 536 n (omega arith) (omega arith),
)

pub written-speaks : (b : ClientBlock) (bytes more : List ℕ) → is_writing b ≡ true → length bytes + length more ≤ 2 ^ 30 → Speaks b.send bytes
    → Speaks (client_written b more).send (bytes ++ more) × GoesOn (stream_of b.send bytes) (stream_of (client_written b more).send (bytes ++ more))
written-speaks b bytes more w le h =
    let P : ClientBlock → Type 0 = λ d. Speaks d.send (bytes ++ more) × GoesOn (stream_of b.send bytes) (stream_of d.send (bytes ++ more)) in
    let unfinished = not-true b.send.finished (and_parts (is_client_open b) (not b.send.finished) w).1 in
    cond_both (is_writing b) (record b { send = queued_too b.send more }) b P
    (λ t. speaks-queued b.send bytes more unfinished le h) (λ t. absurd (cc))

pub closing-speaks : (b : ClientBlock) (bytes : List ℕ) → Speaks b.send bytes → Continues b.send bytes (shut_down b).send
closing-speaks b bytes h =
    cond_both (is_client_open b) (record b { send = send_closed b.send }) b (λ d. Continues b.send bytes d.send)
    (λ t. speaks-closed b.send bytes h) (λ t. still b bytes h)

pub others-change_nothing : (b : ClientBlock) → ((held_on b).send ≡ b.send) × ((client_taken b).send ≡ b.send) × ((aborted b).send ≡ b.send)
others-change_nothing b =
    let P : ClientBlock → Type 0 = λ d. d.send ≡ b.send in (
      cond_both (is_client_open b) (record b { holding = true }) b P (λ t. refl) (λ t. refl),
      cond_both (is_client_open b) (record b { holding = false; held = 0; owed = b.owed || is_established b }) b P (λ t. refl) (λ t. refl),
      cond_both (is_client_open b) (record b { phase = Aborted }) b P (λ t. refl) (λ t. refl),
    )
