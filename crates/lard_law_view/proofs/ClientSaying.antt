-- What a client emits acknowledges what it took, and nothing before it is established. What it took stays as it is.
use Rattle.std.proofs.Common.{◌≡◌, ◌≤◌, ◌+◌, ◌-◌, ℕ, zero, suc, Bool, true, false, cond, not, ◌==◌, ◌&&◌, ◌||◌, nat_lt, List, [], ◌∷◌, ◌++◌, min, Option, Some, None, IfSome, arith, refl, sym, ap, ◌∙◌, subst}
use Rattle.std.proofs.lemmas.Bool.{cond_both, cond-true, and_parts}
use Rattle.lard_law_view.specs.Prelude.{Accepts, ClientAgrees, ClientBlock, IsSendable, Phase, Place, Ready, Said, Sending, Stream, ToCluster, abort_ready, after_next, after_resend, again_fin, again_len, byte_piece, client_ack_ready, client_after_emit, client_after_timer, client_arrived, client_emits, client_emitted, client_filled, client_owed_ready, client_owes, client_piece_ready, client_rcv_nxt, client_rcv_wnd, client_refusal, client_timed, data_ready, heard_in, heard_open, is_client_open, is_established, may_send, next_fin, next_len, next_piece, one_if, resent_piece, reset_ready, send_left, seq_add, spelled, station_ready_of, symbols, syn_piece, syn_ready, to_front, unsent_bytes}
use Rattle.lard_client.specs.declared.phase.Phase.TheVariants.{Open, Aborted, Reset}
use Rattle.lard_client.specs.Leaving as client
use Rattle.lard_client.proofs.Accepted.{no_reply}
use Rattle.lard_send.specs.declared.piece.Piece.{Piece}
use Rattle.lard_law_view.proofs.Client.{emitted-fair, emit-left}
use Rattle.lard_law_view.proofs.Speaking.{next-moves, resend-moves}
use Rattle.lard_law_view.proofs.ClientAlike.{emit-alike}
use Rattle.lard_law_view.proofs.ClientSpeaking.{agrees-after}
use Rattle.lard_law_view.proofs.Acked.{Acks, WordMay, WordsMay, taken_by}
use Rattle.lard_rules.proofs.Hearing.{client-emit-keeps, client-timer-keeps}

-- ---- what sending leaves

-- as much is acknowledged and was taken, and both sides are as open
abbrev pub Same : ClientBlock → ClientBlock → Type 0
Same x y = (y.send.una ≡ x.send.una) × (y.accepted ≡ x.accepted) × (y.eof ≡ x.eof) × (y.phase ≡ x.phase) × (y.send.finished ≡ x.send.finished)

-- nothing is done
pub same : (x : ClientBlock) → Same x x
same x = (refl, refl, refl, refl, refl)

-- one operation behind another
same-behind : (x y z : ClientBlock) → Same x y → Same y z → Same x z
same-behind x y z a b = (b.0 ∙ a.0, b.1 ∙ a.1, b.2 ∙ a.2, b.3 ∙ a.3, b.4 ∙ a.4)

-- sending moves NXT alone
moved-same : (x : ClientBlock) (t : Sending) (n : ℕ) → t ≡ record x.send { nxt = n } → Same x (record x { send = t })
moved-same x t n e = (ap (λ (s : Sending). s.una) e, refl, refl, refl, ap (λ (s : Sending). s.finished) e)

-- it emits
pub emit-same : (x : ClientBlock) → Same x (client_after_emit x)
emit-same x = let none = same x in client-emit-keeps (Same x) x none none (moved-same x (after_next x.send) (after_next x.send).nxt (next-moves x.send))

-- its timer fires
pub timer-same : (x : ClientBlock) → Same x (client_after_timer x)
timer-same x = client-timer-keeps (Same x) x (same x) (moved-same x (after_resend x.send) (after_resend x.send).nxt (resend-moves x.send))

-- call by call
pub emits-same : (n : ℕ) (x : ClientBlock) → Same x (client_emits n x).1
unfolding client_emits
emits-same zero x = same x
emits-same (suc n) x = go (emits-same n (client_after_emit x)) (client_emitted x) where
  go : Same (client_after_emit x) (client_emits n (client_after_emit x)).1 → (o : Option Ready)
      → Same x (elim o as (λ _. List (Place × List ℕ) × ClientBlock) [
        | None ↦ ([], x)
        | Some r ↦ (to_front (client_after_emit x) r ∷ (client_emits n (client_after_emit x)).0, (client_emits n (client_after_emit x)).1)
      ]).1
  go later None = same x
  go later (Some r) = same-behind x (client_after_emit x) (client_emits n (client_after_emit x)).1 (emit-same x) later

-- it took as much
pub taken-same : (x y : ClientBlock) → Same x y → taken_by y ≡ taken_by x
taken-same x y e = λ i. cond (not (e.0 i == 0)) (1 + e.1 i + one_if (e.2 i)) 0

-- ---- what its segments acknowledge

-- a segment with ACK tells RCV.NXT of an established client, and one with RST comes of a client that aborted
abbrev pub Says : Bool → ClientBlock → Ready → Type 0
Says aborted x r = (r.flags.ack ≡ true → (is_established x ≡ true) × (r.ack.0 ≡ client_rcv_nxt x)) × (r.flags.rst ≡ true → aborted ≡ true)

module _ (aborted : Bool) (x : ClientBlock) where
  abbrev Saying : Option Ready → Type 0
  Saying o = IfSome o (Says aborted x)

  -- the SYN has no ACK, and all other pieces are sent once the client is established
  abbrev Later : Option Piece → Type 0
  Later o = IfSome o (λ p. p.syn ≡ false → is_established x ≡ true)

  -- a piece is the SYN, or tells RCV.NXT
  piece-says : (p : Piece) → (p.syn ≡ false → is_established x ≡ true) → Says aborted x (client_piece_ready x p)
  piece-says p f =
      cond_both p.syn (syn_ready x) (data_ready x p) (Says aborted x) (λ t. (λ e. absurd (cc), λ e. absurd (cc))) (λ t. (λ e. (f t, refl), λ e. absurd (cc)))

  -- what is sent next
  next-later : Later (next_piece x.send)
  next-later =
      let s = x.send in
      let next = Some (byte_piece s (s.nxt - 1) (next_len s) (next_fin s)) in
      cond_both (s.nxt == 0) (Some syn_piece) (cond (may_send s) next None) Later (λ t. λ e. absurd (cc))
      (λ t. cond_both (may_send s) next None Later (λ m. λ e. (and_parts (not (s.una == 0)) (nat_lt s.nxt (symbols s) && nat_lt 0 (send_left s)) m).0) (λ m. tt))

  -- what is sent again
  resent-later : Later (resent_piece x.send)
  resent-later =
      let s = x.send in
      let again = Some (byte_piece s (s.una - 1) (again_len s) (again_fin s)) in
      let probe = Some (byte_piece s (s.nxt - 1) (min (unsent_bytes s) 1) (unsent_bytes s == 0)) in
      let last : Option Piece = cond (nat_lt s.nxt (symbols s)) probe None in
      cond_both (s.una == 0) (Some syn_piece) (cond (nat_lt s.una s.nxt) again last) Later (λ t. λ e. absurd (cc))
      (λ t. cond_both (nat_lt s.una s.nxt) again last Later (λ u. λ e. ap not t)
      (λ u. cond_both (nat_lt s.nxt (symbols s)) probe None Later (λ v. λ e. ap not t) (λ v. tt)))

  -- a piece's segment, or else what is sent in its place
  pieces-say : (o : Option Piece) (other : Option Ready) → Later o → Saying other → Saying (client.client_ready_of x o other)
  pieces-say (Some p) other l k = piece-says p l
  pieces-say None other l k = k

  -- an ACK is owed by an established client alone
  owed-says : Saying (client_owed_ready x)
  owed-says =
      cond_both (client_owes x) (Some (client_ack_ready x)) None Saying
      (λ t. (λ e. ((and_parts (is_established x) (x.owed || (x.last_window == 0 && nat_lt 0 (client_rcv_wnd x))) t).0, refl), λ e. absurd (cc))) (λ t. tt)

  -- what it emits
  pub emitted-says : (r : Ready) → client_emitted x ≡ Some r → Says aborted x r
  emitted-says r e =
      subst Saying e
      (cond_both (not (is_client_open x)) None (client.client_ready_of x (next_piece x.send) (client_owed_ready x)) Saying (λ t. tt)
      (λ t. pieces-say (next_piece x.send) (client_owed_ready x) next-later owed-says))

  -- what its timer sends
  pub timed-says : (r : Ready) → client_timed x ≡ Some r → Says aborted x r
  timed-says r e =
      subst Saying e
      (cond_both (not (is_client_open x)) None (client.client_ready_of x (resent_piece x.send) None) Saying (λ t. tt)
      (λ t. pieces-say (resent_piece x.send) None resent-later tt))

  -- a client that aborts resets
  pub abort-says : (r : Ready) → aborted ≡ true → abort_ready x ≡ Some r → Says aborted x r
  abort-says r done e =
      subst Saying e
      (cond_both (is_client_open x && is_established x) (Some (reset_ready x)) None Saying
      (λ t. (λ u. ((and_parts (is_client_open x) (is_established x) t).1, refl), λ u. done)) (λ t. tt))

  -- and so does one that has aborted, without an ACK
  phase-says : (p : Phase) (s : Said) → (p ≡ Aborted → aborted ≡ true) → Saying (heard_in p x s).0.reply
  phase-says Open s done = no_reply x s (heard_open x s).0 (heard_open x s).1 (Says aborted x) refl
  phase-says Aborted s done =
      cond_both (s.flags.ack && not s.flags.rst) (Some (client_refusal x s.ack)) None Saying (λ t. (λ e. absurd (cc), λ e. done refl)) (λ t. tt)
  phase-says Reset s done = tt

  -- a reply
  pub reply-says : (s : Said) (r : Ready) → (x.phase ≡ Aborted → aborted ≡ true) → (client_arrived x s).0.reply ≡ Some r → Says aborted x r
  unfolding client_arrived
  reply-says s r done e = subst Saying e (phase-says x.phase s done)

-- ---- words

-- what an established client acknowledges it took
taken-acks : (out : Stream) (x : ClientBlock) (m : ℕ) → Accepts out x → taken_by x ≤ m → is_established x ≡ true → Acks out.first m (client_rcv_nxt x)
taken-acks out x m a le e =
    let count = 1 + x.accepted + one_if x.eof in
    let all : taken_by x ≡ count = cond-true (is_established x) count 0 e in
    (count, ap (λ n. seq_add n count) (a.first e), omega arith)

-- so its segment is a word, with whatever bytes
pub says-word : (out : Stream) (aborted : Bool) (m : ℕ) (x y : ClientBlock) (r : Ready) → Accepts out x → taken_by x ≤ m → Says aborted x r
    → WordMay out.first m aborted (client_filled y r)
says-word out aborted m x y r a le says = record {
  acks = λ e. let said = says.0 e in subst (Acks out.first m) (sym said.1) (taken-acks out x m a le said.0);
  resets = says.1;
}

-- segments that are ready
pub ready-may : (c iss m : ℕ) (aborted : Bool) (y : ClientBlock) (o : Option Ready) → y.c ≡ c
    → ((r : Ready) → o ≡ Some r → IsSendable (client_filled y r) × WordMay iss m aborted (client_filled y r)) → WordsMay c iss m aborted (station_ready_of y o)
ready-may c iss m aborted y None n may = tt
ready-may c iss m aborted y (Some r) n may =
    ((client_filled y r, ap (λ k. spelled k ToCluster (client_filled y r)) n, (may r refl).0, (may r refl).1), tt)

-- what goes out first, and what goes out behind that
pub may-append : (c iss m : ℕ) (aborted : Bool) (ps qs : List (Place × List ℕ)) → WordsMay c iss m aborted ps → WordsMay c iss m aborted qs
    → WordsMay c iss m aborted (ps ++ qs)
may-append c iss m aborted [] qs a b = b
may-append c iss m aborted (p ∷ ps) qs a b = (a.0, may-append c iss m aborted ps qs a.1 b)

-- ---- call by call
module _ (c : ℕ) (w out : Stream) (aborted : Bool) (m : ℕ) where
  -- it agrees after a call
  emit-agrees : (x : ClientBlock) → ClientAgrees c w out x → ClientAgrees c w out (client_after_emit x)
  emit-agrees x h =
      let gone = emit-left out x w.bytes h.speaks h.accepts in
      let like = emit-alike x in
      let count = like.1 in
      let bounded = h.sound.bounded in
      agrees-after c w w out x (client_after_emit x) h like.0 (omega arith) (h.w_is ∙ sym gone.1) gone.0 gone.2

  -- what it emits are words
  pub emits-may : (n : ℕ) (x : ClientBlock) → ClientAgrees c w out x → taken_by x ≤ m → WordsMay c out.first m aborted (client_emits n x).0
  unfolding client_emits
  emits-may zero x h le = tt
  emits-may (suc n) x h le =
      go (emits-may n (client_after_emit x) (emit-agrees x h) (subst (λ k. k ≤ m) (sym (taken-same x (client_after_emit x) (emit-same x))) le)) (client_emitted x) refl
    where
      go : WordsMay c out.first m aborted (client_emits n (client_after_emit x)).0 → (o : Option Ready) → client_emitted x ≡ o
          → WordsMay c out.first m aborted (elim o as (λ _. List (Place × List ℕ) × ClientBlock) [
            | None ↦ ([], x)
            | Some r ↦ (to_front (client_after_emit x) r ∷ (client_emits n (client_after_emit x)).0, (client_emits n (client_after_emit x)).1)
          ]).0
      go later None e = tt
      go later (Some r) e = (
        (
          client_filled (client_after_emit x) r,
          ap (λ k. spelled k ToCluster (client_filled (client_after_emit x) r)) ((emit-alike x).0.0 ∙ h.numbered),
          (emitted-fair x w.bytes h.sound h.wide h.speaks r e).1,
          says-word out aborted m x (client_after_emit x) r h.accepts le (emitted-says aborted x r e),
        ),
        later,
      )
