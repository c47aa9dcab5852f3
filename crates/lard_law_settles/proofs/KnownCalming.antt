-- A client that holds nothing and has said all that it may is calm, where little was written: by the laws of bytes, and by how far the cluster's
-- windows reach.
use Rattle.std.proofs.Common.{◌≡◌, ◌<◌, ◌≤◌, ◌+◌, ◌-◌, ◌^◌, ◌==◌, ◌&&◌, nat_lt, not, ℕ, Bool, true, false, cond, List, length, Option, Some, None, ⊎_elim, refl, ap, ◌∙◌, subst, arith}
use Rattle.std.proofs.lemmas.Bool.{cases_lt}
use Rattle.std.proofs.lemmas.Bool.Decides.{nat_tests}
use Rattle.lard_law_view.specs.Prelude.{ClientBlock, Conn, ControlBlock, FilesAt, MAX_STREAM_BYTES, RECEIVE_WINDOW, Ready, Sending, Station, Stream, Talk, Verdict, byte_piece, client_emitted, client_owed_ready, client_ready_of, is_client_open, is_open_in, may_send, next_fin, next_len, next_piece, peer_room, send_left, symbols, syn_piece}
use Rattle.lard_bound.specs.Units.{symbols_taken}
use Rattle.lard_client.specs.declared.phase.Phase.TheVariants.{Open}
use Rattle.lard_law_connections.specs.BytesAgreement.{IsOpen}
use Rattle.lard_law_settles.proofs.KnownCounting.{one-most, taken-same}
use Rattle.lard_law_settles.proofs.KnownForwarded.{took-most}
use Rattle.lard_law_progress.proofs.AnswersClientGiven.{IsCalm, Tells}
use Rattle.lard_law_progress.proofs.AnswersFrontGiven.{IsTalking}
use Rattle.lard_send.specs.declared.piece.Piece.{Piece}

-- ---- all is sent that the window lets

within : (a b : ℕ) → a < b → nat_lt a b ≡ true
within a b e = grind (arith, nat_tests, e)

-- an open client that says nothing has nothing to send
pub nothing-next : (x : ClientBlock) → is_client_open x ≡ true → client_emitted x ≡ None → next_piece x.send ≡ None
nothing-next x open_ none = by-piece (next_piece x.send) (by-open (is_client_open x) open_ none) where
  by-open : (t : Bool) → t ≡ true → cond {A = Option Ready} (not t) None (client_ready_of x (next_piece x.send) (client_owed_ready x)) ≡ None → client_ready_of x (next_piece x.send) (client_owed_ready x) ≡ None
  by-open true e f = f
  by-open false e f = absurd (let bad : false ≡ true = e in cc)

  by-piece : (p : Option Piece) → client_ready_of x p (client_owed_ready x) ≡ None → p ≡ None
  by-piece (Some p) f = absurd cc
  by-piece None f = refl

-- the SYN was sent
pub sent-syn : (s : Sending) → next_piece s ≡ None → 1 ≤ s.nxt
sent-syn s none = ⊎_elim (λ (l : s.nxt < 1). absurd (first (s.nxt == 0) (zero s.nxt l) none)) (λ (l : 1 ≤ s.nxt). l) (cases_lt s.nxt 1) where
  zero : (n : ℕ) → n < 1 → (n == 0) ≡ true
  zero n e = grind (arith, nat_tests, e)

  first : (p : Bool) → p ≡ true → cond p (Some syn_piece) (cond (may_send s) (Some (byte_piece s (s.nxt - 1) (next_len s) (next_fin s))) None) ≡ None → ⊥
  first true e f = cc
  first false e f = let bad : false ≡ true = e in cc

-- where the window reaches beyond all that there is, all was sent
pub all-sent : (s : Sending) → next_piece s ≡ None → (s.una == 0) ≡ false → symbols s ≤ s.una + s.wnd → symbols s ≤ s.nxt
unfolding peer_room
all-sent s none established wide = ⊎_elim (λ (l : s.nxt < symbols s). absurd (sends l (s.nxt == 0) (may_send s) (may l) none)) (λ (l : symbols s ≤ s.nxt). l) (cases_lt s.nxt (symbols s)) where
  may : s.nxt < symbols s → may_send s ≡ true
  may l = λ i. not (established i) && (within s.nxt (symbols s) l i && within 0 (send_left s) (omega (arith, l, wide)) i)

  sends : s.nxt < symbols s → (p m : Bool) → m ≡ true → cond p (Some syn_piece) (cond m (Some (byte_piece s (s.nxt - 1) (next_len s) (next_fin s))) None) ≡ None → ⊥
  sends l true m e f = cc
  sends l false true e f = cc
  sends l false false e f = let bad : false ≡ true = e in cc

-- ---- a client

-- Beside the law of bytes: it has said all that it may, holds nothing, opened with a window, and knows of one that reaches far; before it is
-- established it sent its SYN alone; and little was written.
pub record HasRest (x : ClientBlock) (w : Stream) : Type 0 where
  pub none : client_emitted x ≡ None
  pub held : x.phase ≡ Open → x.held ≡ 0
  pub holding : x.phase ≡ Open → x.holding ≡ false
  pub some : 1 ≤ x.wnd
  pub wide : 0 < x.send.una → RECEIVE_WINDOW ≤ x.send.una + x.send.wnd
  pub alone : x.phase ≡ Open → x.send.una ≡ 0 → x.send.nxt ≡ 1
  pub few : length w.bytes ≤ 16382

pub calms : (files : FilesAt) (x : Conn) (st : Station) (k : Talk) (pend : List Verdict) → IsOpen files x k pend st → HasRest st.client k.w → IsCalm st st.client
calms files x st k pend o rest =
    let c = st.client in
    let count : length k.w.bytes ≡ c.send.total = o.client.speaks.part.count in
    let few : length k.w.bytes ≤ 16382 = rest.few in
    let one = one-most c.send.finished in
    let accepted : c.accepted ≤ length k.out.bytes = o.client.accepts.within in
    let out_most : length k.out.bytes ≤ MAX_STREAM_BYTES = o.says.most in
    let t = took-most c MAX_STREAM_BYTES (omega (arith, accepted, out_most)) in
    let same = taken-same c in
    let small : c.wnd < 2 ^ 16 = o.client.wide in
    record {
      sound = o.client.speaks.sound;
      none = rest.none;
      held = rest.held;
      holding = rest.holding;
      some = rest.some;
      small = small;
      isn_small = o.client.speaks.number;
      iss_small = subst (λ n. n < 2 ^ 32) o.begins o.says.number;
      few = omega (arith, count, few, one);
      far = omega (arith, t, same, small);
      alone = rest.alone;
      all = λ open_ established. all-sent c.send (nothing-next c (ap is_open_in open_) rest.none) established
          (let r = rest.wide (above c.send.una established) in omega (arith, r, count, few, one));
      irs = λ established. o.client.accepts.first (ap not established) ∙ o.begins;
    }
  where
    above : (n : ℕ) → (n == 0) ≡ false → 0 < n
    above n e = grind (arith, nat_tests, e)

-- ---- where its endpoint talks with it

-- what the endpoint knows to be taken was, and where that is all, no more was taken
pub tells-of : (st : Station) (b : ControlBlock) → IsTalking st b → Tells st.client b
tells-of st b talk =
    let sent : symbols_taken st.client ≤ b.send.nxt = talk.sent in
    let queued : b.send.nxt ≤ symbols b.send = talk.sound.sending.queued in
    (talk.acked, λ all. omega (arith, sent, queued, all))
