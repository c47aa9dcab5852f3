-- What comes of a client's segment to a connection that ended: it answers with its last numbers.
use Rattle.std.proofs.Common.{◌≡◌, ◌<◌, ◌≤◌, ◌+◌, ◌==◌, ◌&&◌, ◌||◌, nat_lt, not, ℕ, suc, Bool, true, false, List, length, Option, Some, None, Ok, inl, refl, sym, ap, ◌∙◌, subst, arith, if◌then◌else◌}
use Rattle.std.proofs.lemmas.Bool.{cond_both, cond-false, lt-ltb}
use Rattle.std.proofs.lemmas.Bool.Decides.{nat_tests}
use Rattle.lard_law_view.specs.Prelude.{Client, Conn, Final, Front, FrontDeed, FrontEnv, IsFrontEnv, IsSendable, Letter, Phase, Reason, Said, Setting, Station, ToClient, ToCluster, decoded, is_telling, last_ack, last_words, refusal, seg_len, seq_offset, spelled, symbols, tombstone, turn_here}
use Rattle.lard_base.specs.declared.place.Reason.TheVariants as reason
use Rattle.lard_bound.specs.Chains.{chain, is_current, reply_chain, word_chain}
use Rattle.lard_bound.specs.Nears.{Crosses, Near, NearClosing, NearEnded, NearSegment, OfSegment}
use Rattle.lard_bound.specs.Seats.{Over, seat_of}
use Rattle.lard_bound.specs.Spots.{Spot}
use Rattle.lard_bound.specs.Units.{Whole, symbols_taken}
use Rattle.lard_client.specs.declared.phase.Phase.TheVariants as phase
use Rattle.lard_rules.specs.Front.{Says}
use Rattle.lard_law_progress.proofs.AnswersFrontAway.{Owes, does, l, word-chained, word-near}
use Rattle.lard_law_progress.proofs.AnswersFrontGiven.{HasClosed, IsWord}
use Rattle.lard_law_progress.proofs.AnswersFrontSpots.{answers-by, at_seat, nothing-comes}
use Rattle.lard_segment.proofs.Again.{again}

-- ---- what has something to acknowledge

some-less : (n : ℕ) → nat_lt 0 n ≡ true → (n == 0) ≡ false
some-less n e = grind (arith, nat_tests, e)

-- is no current acknowledgement, nor a RST
telling-longest : (syn fin rst ack q : Bool) (n : ℕ) → (not rst && (syn || (fin || nat_lt 0 n))) ≡ true → (rst || (((not syn && (not fin && not rst)) && (ack && (n == 0))) && q)) ≡ false
telling-longest syn fin true ack q n e = absurd cc
telling-longest true fin false ack q n e = refl
telling-longest false true false ack q n e = refl
telling-longest false false false false q n e = refl
telling-longest false false false true q n e = ap (λ (t : Bool). t && q) (some-less n e)

pub telling-chain : (t : Spot) (s : Said) → is_telling s ≡ true → word_chain t s ≡ 3
telling-chain t s e = cond-false (s.flags.rst || is_current t s) 0 3 (telling-longest s.flags.syn s.flags.fin s.flags.rst s.flags.ack (seq_offset s.seq t.isn == t.last) (length s.payload) e)

has-symbols : (syn fin rst : Bool) (n : ℕ) → syn ≡ false → rst ≡ false → 1 ≤ n + (if syn then 1 else 0) + (if fin then 1 else 0) → (not rst && (syn || (fin || nat_lt 0 n))) ≡ true
has-symbols true fin rst n a b c = absurd cc
has-symbols false fin true n a b c = absurd cc
has-symbols false true false n a b c = refl
has-symbols false false false n a b c = lt-ltb 0 n (omega (arith, c))

-- data that crosses what the client knows to be taken has
pub crosses-tells : (t : Spot) (s : Said) → Crosses t s → is_telling s ≡ true
crosses-tells t s h = has-symbols s.flags.syn s.flags.fin s.flags.rst (length s.payload) h.no_syn h.no_rst (let a : seq_offset s.seq t.isn ≤ t.una = h.from in let b : t.una < seq_offset s.seq t.isn + seg_len s = h.to in omega (arith, a, b))

module _ (k : Setting) (w : Whole) (x : Conn) (bytes : List ℕ) (st : Station) (was : x.part.station ≡ Some st) (s : Said) (reads_so : decoded bytes x.c ToCluster ≡ Ok s) (env : FrontEnv) (is_env : IsFrontEnv k x.c env)
    (last : Final) (seat : seat_of x.part ≡ Over last) (word : IsWord st (seat_of x.part) bytes s) (closed : HasClosed st last) where
  abbrev t : Spot
  t = at_seat k.files x.part st (Over last)

  abbrev deed : Option Said → FrontDeed
  deed o = Says (turn_here (tombstone env.serve o))

  -- what was near, by why the connection ended and what became of its client
  ended-near : (r : Reason) (ph : Phase) → last.reason ≡ r → st.client.phase ≡ ph → (d : ℕ) → Near k.files t x.c d (l k w x bytes) → NearEnded t d (symbols_taken st.client) s r ph
  ended-near r ph why is d near = subst (NearEnded t d (symbols_taken st.client) s r) is (subst (λ (y : Reason). NearEnded t d (symbols_taken st.client) s y st.client.phase) why (word-near k w x bytes st was s reads_so t d near))

  closing-near : (r : Reason) (ph : Phase) → last.reason ≡ r → st.client.phase ≡ ph → (d : ℕ) (a : Said) → NearClosing t d (symbols_taken st.client) a r ph → NearSegment t d a t.post
  closing-near r ph why is d a near = subst (λ (y : Reason). NearClosing t d (symbols_taken st.client) a y st.client.phase) (sym why) (subst (NearClosing t d (symbols_taken st.client) a r) (sym is) near)

  silent-owes : ((d : ℕ) → Near k.files t x.c (suc d) (l k w x bytes) → ⊥) → Owes k w x bytes (deed None)
  silent-owes never lasts later = answers-by k w x (does k w x bytes (deed None)) (l k w x bytes) st was lasts (Over last) seat (λ up. nothing-comes k.files t x.c (l k w x bytes) never)

  reply-owes : (a : Said) → IsSendable a → reply_chain (Ok a) < word_chain t s + 1 → ((d : ℕ) → Near k.files t x.c (suc d) (l k w x bytes) → NearSegment t d a t.post) → Owes k w x bytes (deed (Some a))
  reply-owes a fits short near lasts later =
      let sent : Letter = record { from = Front; to = Client env.serve.c; bytes = spelled env.serve.c ToClient a } in
      let is : decoded sent.bytes x.c ToClient ≡ Ok a = ap (λ c. decoded (spelled c ToClient a) x.c ToClient) is_env.number ∙ again x.c ToClient a fits in
      let chained : chain t x.c sent ≡ reply_chain (Ok a) = ap reply_chain is in
      let before = word-chained k w x bytes st was s reads_so t in
      answers-by k w x (does k w x bytes (deed (Some a))) (l k w x bytes) st was lasts (Over last) seat (λ up. record {
        shorter = (omega (arith, chained, before, short), tt);
        leads = λ d h. inl (subst (OfSegment (λ y. NearSegment t d y t.post)) (sym is) (near d h));
      })

  -- ---- both sides had closed

  closed-near : last.reason ≡ reason.Closed → (d : ℕ) → Near k.files t x.c (suc d) (l k w x bytes) → NearSegment t d (last_ack last) t.post
  closed-near why d near = go st.client.phase refl where
    go : (ph : Phase) → st.client.phase ≡ ph → NearSegment t d (last_ack last) t.post
    go phase.Open is =
        let h = ended-near reason.Closed phase.Open why is (suc d) near in
        let all = closed.all why is in
        let to : st.client.send.una < seq_offset s.seq st.client.send.iss + seg_len s = h.0.to in
        let in_ : seq_offset s.seq st.client.send.iss + seg_len s ≤ symbols st.client.send = word.within h.0.no_rst (let a : seq_offset s.seq st.client.send.iss ≤ st.client.send.una = h.0.from in let c : st.client.send.una < seq_offset s.seq st.client.send.iss + seg_len s = h.0.to in omega (arith, a, c)) in
        let end : seq_offset last.rcv.0 st.client.send.iss ≡ symbols st.client.send = all.1 in
        closing-near reason.Closed phase.Open why is d (last_ack last) (record { plain = refl; number = all.0; more = omega (arith, to, in_, end) }, (let two : 2 ≤ suc d = h.1 in omega arith))
    go phase.Aborted is = absurd (ended-near reason.Closed phase.Aborted why is (suc d) near)
    go phase.Reset is = absurd (ended-near reason.Closed phase.Reset why is (suc d) near)

  closed-tells : last.reason ≡ reason.Closed → (d : ℕ) → Near k.files t x.c (suc d) (l k w x bytes) → is_telling s ≡ true
  closed-tells why d near = go st.client.phase refl where
    go : (ph : Phase) → st.client.phase ≡ ph → is_telling s ≡ true
    go phase.Open is = crosses-tells t s (ended-near reason.Closed phase.Open why is (suc d) near).0
    go phase.Aborted is = absurd (ended-near reason.Closed phase.Aborted why is (suc d) near)
    go phase.Reset is = absurd (ended-near reason.Closed phase.Reset why is (suc d) near)

  closed-owes : last.reason ≡ reason.Closed → Owes k w x bytes (deed (last_words reason.Closed last s))
  closed-owes why = cond_both (is_telling s) (Some (last_ack last)) None (λ (o : Option Said). Owes k w x bytes (deed o))
      (λ e. let three = telling-chain t s e in
      reply-owes (last_ack last)
      (record { seq_fits = closed.snd_small; ack_fits = closed.rcv_small; wnd_fits = omega arith; some_mss = tt; small_mss = tt; small_payload = omega arith; no_ack = λ f. absurd cc })
      (let two : reply_chain (Ok (last_ack last)) ≡ 2 = refl in omega (arith, three, two)) (closed-near why))
      (λ e. silent-owes (λ d near. let bad : true ≡ false = sym (closed-tells why d near) ∙ e in cc))

  -- ---- the stream limit was reached

  abbrev Refused : ℕ → Type 0
  Refused d = (s.flags.ack ≡ true) × (s.flags.rst ≡ false) × (seq_offset s.ack st.iss ≡ symbols_taken st.client) × (2 ≤ suc d)

  limit-near : last.reason ≡ reason.Limit → (d : ℕ) → Near k.files t x.c (suc d) (l k w x bytes) → (st.client.phase ≡ phase.Open) × Refused d
  limit-near why d near = go st.client.phase refl where
    go : (ph : Phase) → st.client.phase ≡ ph → (st.client.phase ≡ phase.Open) × Refused d
    go phase.Open is = (is, ended-near reason.Limit phase.Open why is (suc d) near)
    go phase.Aborted is = absurd (ended-near reason.Limit phase.Aborted why is (suc d) near)
    go phase.Reset is = absurd (ended-near reason.Limit phase.Reset why is (suc d) near)

  limit-owes : last.reason ≡ reason.Limit → Owes k w x bytes (deed (last_words reason.Limit last s))
  limit-owes why = cond_both (s.flags.ack && not s.flags.rst) (Some (refusal s.ack)) None (λ (o : Option Said). Owes k w x bytes (deed o))
      (λ e. reply-owes (refusal s.ack)
      (record { seq_fits = word.ack_small; ack_fits = omega arith; wnd_fits = omega arith; some_mss = tt; small_mss = tt; small_payload = omega arith; no_ack = λ f. refl })
      (let none : reply_chain (Ok (refusal s.ack)) ≡ 0 = refl in omega (arith, none))
      (λ d near. let h = limit-near why d near in closing-near reason.Limit phase.Open why h.0 d (refusal s.ack) (refl, h.1.2, (let two : 2 ≤ suc d = h.1.3 in omega arith))))
      (λ e. silent-owes (λ d near.
      let h = limit-near why d near in let bad : true ≡ false = sym (both s.flags.ack s.flags.rst h.1.0 h.1.1) ∙ e in cc))
    where
      both : (p q : Bool) → p ≡ true → q ≡ false → (p && not q) ≡ true
      both true false a b = refl
      both true true a b = absurd cc
      both false q a b = absurd cc

  -- ---- its client reset it

  peer-owes : last.reason ≡ reason.Peer → Owes k w x bytes (deed None)
  peer-owes why = silent-owes (λ d near. go st.client.phase refl d near) where
    go : (ph : Phase) → st.client.phase ≡ ph → (d : ℕ) → Near k.files t x.c (suc d) (l k w x bytes) → ⊥
    go phase.Open is d near = ended-near reason.Peer phase.Open why is (suc d) near
    go phase.Aborted is d near = ended-near reason.Peer phase.Aborted why is (suc d) near
    go phase.Reset is d near = ended-near reason.Peer phase.Reset why is (suc d) near

  pub over-owes : Owes k w x bytes (deed (last_words last.reason last s))
  over-owes = go last.reason refl where
    go : (r : Reason) → last.reason ≡ r → Owes k w x bytes (deed (last_words r last s))
    go reason.Closed why = closed-owes why
    go reason.Peer why = peer-owes why
    go reason.Limit why = limit-owes why
