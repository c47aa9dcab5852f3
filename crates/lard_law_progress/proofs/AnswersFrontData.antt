-- Data of which the client does not know that it was taken, at an endpoint that has said all: one acknowledgement is said, which is news
-- to the client.
use Rattle.std.proofs.Common.{◌≡◌, ◌<◌, ◌≤◌, ◌+◌, ◌-◌, ◌^◌, cond, min, ℕ, Bool, true, false, List, length, refl, sym, ap, ◌∙◌, subst, arith}
use Rattle.lard_law_view.specs.Prelude.{ControlBlock, IsSendable, MAX_STREAM_BYTES, RECEIVE_WINDOW, Received, Said, Sending, Station, ack_ready, filled, on_segment, one_if, rcv_nxt, receive_room, seg_len, seq_add, seq_offset, snd_nxt, symbols, told}
use Rattle.lard_bound.specs.Nears.{Crosses, IsAnswer}
use Rattle.lard_bound.specs.Spots.{Spot}
use Rattle.lard_bound.specs.Units.{symbols_taken}
use Rattle.lard_endpoint.proofs.Sound.{on_segment-sound}
use Rattle.lard_law_progress.proofs.AnswersFrontGiven.{IsTalking}
use Rattle.lard_law_progress.proofs.AnswersFrontSaying.{ack-known, flag-none, not-zero}
use Rattle.lard_law_progress.proofs.Data.{CarriesData, IsOwing, data-owes, heard}
use Rattle.lard_law_progress.proofs.Silence.{heard-keeps, heard-kept}
use Rattle.lard_law_progress.proofs.Stays.{IsAlike}
use Rattle.lard_send.proofs.Sent.{after_ack-irs}
use Rattle.lard_seq.proofs.Laws.{add-offset, offset-add}

flag-len : (t : Bool) → cond t 1 0 ≡ one_if t
flag-len true = refl
flag-len false = refl

number-small : (b n : ℕ) → seq_add b n < 2 ^ 32
number-small b n = omega arith

room-small : (r : Received) → receive_room r < 2 ^ 16
room-small r = least (length r.unread) r.got where
  least : (u g : ℕ) → min (RECEIVE_WINDOW - u) (MAX_STREAM_BYTES - g) < 2 ^ 16
  least u g = omega arith

module _ (st : Station) (b : ControlBlock) (s : Said) (bytes : List ℕ) (talk : IsTalking st b) (acked : seq_offset s.ack st.iss ≤ symbols_taken st.client) (small : s.seq < 2 ^ 32)
    (within : seq_offset s.seq st.client.send.iss + seg_len s ≤ symbols st.client.send) where
  abbrev isn : ℕ
  isn = st.client.send.iss

  abbrev d : ControlBlock
  d = (on_segment b s).1

  -- its bytes are ones that the client has, and the endpoint awaits none behind them
  carries : (t : Spot) → t.isn ≡ isn → t.una ≡ st.client.send.una → Crosses t s → b.send.una ≡ symbols b.send → CarriesData b st.client.send.una (seq_offset s.seq isn) s
  carries t is una h clear =
      let f1 : seq_offset s.seq t.isn ≤ t.una = h.from in
      let f2 : t.una < seq_offset s.seq t.isn + seg_len s = h.to in
      let o : seq_offset s.seq t.isn ≡ seq_offset s.seq isn = ap (seq_offset s.seq) is in
      let syn = flag-none s.flags.syn h.no_syn in
      let fin = flag-len s.flags.fin in
      let len : seg_len s ≡ length s.payload + one_if s.flags.fin = omega (arith, syn, fin) in
      let w : seq_offset s.seq isn + seg_len s ≤ symbols st.client.send = within in
      let k : st.client.send.una ≤ heard b.recv = talk.knows in
      let sp : heard b.recv ≤ symbols st.client.send = talk.spoke in
      let wide : symbols st.client.send < heard b.recv + receive_room b.recv = talk.wide in
      let far : heard b.recv + receive_room b.recv ≤ 2 ^ 31 = talk.far in
      let sent : symbols_taken st.client ≤ b.send.nxt = talk.sent in
      let a : seq_offset s.ack st.iss ≤ symbols_taken st.client = acked in
      record {
        data_is = record {
          first = subst (λ n. n < 2 ^ 32) (sym talk.irs) talk.isn_small;
          number = sym (add-offset s.seq isn small talk.isn_small) ∙ ap (λ n. seq_add n (seq_offset s.seq isn)) (sym talk.irs);
          from = omega (arith, f1, o, una);
          known = k;
          to = omega (arith, f2, o, una, len);
          some = omega (arith, sp, wide);
          small = omega (arith, far);
          last = λ f. let e : symbols st.client.send ≤ heard b.recv = talk.shut f in omega (arith, e, w, len);
        };
        acks = h.acks;
        no_syn = h.no_syn;
        no_rst = h.no_rst;
        known = ack-known st b s talk (omega (arith, a, sent));
        established = not-zero b.send.una (omega (arith, clear));
        within = omega (arith, w, len, wide);
        far = far;
      }

  pub crosses-owes : (t : Spot) → t.isn ≡ isn → t.una ≡ st.client.send.una → Crosses t s → b.send.una ≡ symbols b.send → IsOwing b st.client.send.una (on_segment b s)
  crosses-owes t is una h clear = data-owes b st.client.send.una (seq_offset s.seq isn) s (carries t is una h clear)

  -- the client's first number stays
  irs-same : d.recv.irs ≡ b.recv.irs
  irs-same =
      let send : d.send.irs ≡ b.send.irs = heard-keeps (λ (z : Sending). z.irs ≡ b.send.irs) (λ z ack seq wnd e. after_ack-irs z ack seq wnd ∙ e) b s refl in
      sym (on_segment-sound b s talk.sound).same_irs ∙ send ∙ talk.sound.same_irs

  -- ---- what is said behind it, by an endpoint that only read on

  module _ (v : ControlBlock) (alike : IsAlike d v) where
    abbrev pub answer : Said
    answer = filled (told v) (ack_ready v)

    pub answer-fits : IsSendable answer
    answer-fits = record { seq_fits = number-small v.send.iss v.send.nxt; ack_fits = number-small v.recv.irs (heard v.recv); wnd_fits = room-small v.recv; some_mss = tt; small_mss = tt; small_payload = omega arith; no_ack = λ f. absurd cc }

    -- all that it has was sent
    pub all-sent : b.send.una ≡ symbols b.send → symbols v.send ≤ v.send.nxt
    all-sent clear =
        let k = heard-kept b s in
        let n : v.send.nxt ≡ b.send.nxt = ap (λ (z : Sending). z.nxt) alike.send ∙ k.nxt in
        let t : v.send.total ≡ b.send.total = ap (λ (z : Sending). z.total) alike.send ∙ k.total in
        let f : one_if v.send.finished ≡ one_if b.send.finished = ap (λ (z : Sending). one_if z.finished) alike.send ∙ ap one_if k.finished in
        let most : b.send.una ≤ b.send.nxt = talk.sound.sending.sent in
        omega (arith, n, t, f, most, clear)

    pub answer-news : (t : Spot) → t.isn ≡ isn → t.iss ≡ st.iss → t.una ≡ st.client.send.una → b.send.una ≡ symbols b.send → IsOwing b st.client.send.una (on_segment b s) → IsAnswer t b.send.una answer
    answer-news t is iss una clear owes =
        let k = heard-kept b s in
        let sound = on_segment-sound b s talk.sound in
        let u : b.send.una ≤ b.send.nxt = talk.sound.sending.sent in
        let q : b.send.nxt ≤ symbols b.send = talk.sound.sending.queued in
        let most : b.send.total ≤ MAX_STREAM_BYTES = talk.sound.sending.most in
        let flag : one_if b.send.finished ≤ 1 = small-flag b.send.finished in
        let n : v.send.nxt ≡ b.send.una = ap (λ (z : Sending). z.nxt) alike.send ∙ k.nxt ∙ same-nxt b.send.una b.send.nxt (symbols b.send) u q clear in
        let first : v.send.iss ≡ st.iss = ap (λ (z : Sending). z.iss) alike.send ∙ k.iss ∙ talk.iss in
        let seq : seq_offset (snd_nxt v) t.iss ≡ b.send.una =
        (λ i. seq_offset (seq_add (first i) (n i)) (iss i)) ∙ offset-add st.iss b.send.una talk.iss_small (omega (arith, clear, most, flag)) in
        let got : d.recv.got ≤ MAX_STREAM_BYTES = sound.received.received in
        let fin : one_if d.recv.fin ≤ 1 = small-flag d.recv.fin in
        let more : st.client.send.una < heard d.recv = owes.more in
        let ack : seq_offset (rcv_nxt v) t.isn ≡ heard d.recv =
        (λ i. seq_offset (alike.awaits i) (is i)) ∙ ap (λ n. seq_offset (seq_add n (heard d.recv)) isn) (irs-same ∙ talk.irs) ∙ offset-add isn (heard d.recv) talk.isn_small (omega (arith, got, fin)) in
        record { plain = refl; number = seq; more = omega (arith, ack, more, una) }
      where
        small-flag : (t : Bool) → one_if t ≤ 1
        small-flag true = omega arith
        small-flag false = omega arith

        same-nxt : (u n m : ℕ) → u ≤ n → n ≤ m → u ≡ m → n ≡ u
        same-nxt u n m a c e = omega arith
