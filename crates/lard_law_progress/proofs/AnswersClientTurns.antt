-- What comes of a segment of the cluster at a client, whatever it became of: by the spot, where the client goes on and knows of no more.
use Rattle.std.proofs.Common.{◌≡◌, ◌<◌, ◌≤◌, ◌+◌, ◌^◌, ◌==◌, ◌&&◌, ◌||◌, nat_lt, not, ℕ, zero, suc, Bool, true, false, cond, List, [], ◌∷◌, ◌++◌, map, Option, Some, None, Ok, inl, inr, refl, sym, ap, ◌∙◌, subst, arith}
use Rattle.std.proofs.lemmas.Bool.{cond_both, cond-false, cond-true, eqb-true}
use Rattle.std.proofs.lemmas.Bool.Decides.{nat_tests}
use Rattle.lard_law_view.specs.Prelude.{Client, ClientBlock, ControlBlock, FilesAt, Front, Heard, Letter, Node, Part, Phase, Place, Ready, Reason, Said, Sending, Station, ToClient, ToCluster, answers_syn, client_ack_ready, client_arrived, client_on_segment, client_refusal, client_speaks, client_told, decoded, established, heard_in, heard_nothing, introduced, letter, on_greeting, peer_mss, reply_to, reset_by_peer, seq_offset, station_ready_of, symbols, to_front}
use Rattle.lard_base.specs.declared.place.Reason.TheVariants as reason
use Rattle.lard_bound.specs.Chains.{chain, is_current, reply_chain, word_result}
use Rattle.lard_bound.specs.Nears.{IsAnswer, IsNews, Near, NearAway, NearClosing, NearHeld, NearLast, NearReply, NearSegment, NearWord, OfSegment}
use Rattle.lard_bound.specs.Seats.{Held, Here, Over, SeatNow}
use Rattle.lard_bound.specs.Spots.{EndpointSymbols, Spot, ends_of, post_of}
use Rattle.lard_bound.specs.Units.{symbols_taken}
use Rattle.lard_client.specs.declared.phase.Phase.TheVariants as phase
use Rattle.lard_law_progress.proofs.AnswersClientGiven.{EndTells, IsCalm, IsCluster, IsReply, Matters, SeatTells}
use Rattle.lard_law_progress.proofs.AnswersClientHears.{took}
use Rattle.lard_law_progress.proofs.AnswersClientKeeps.{heard-quiet}
use Rattle.lard_law_progress.proofs.AnswersClientReplies.{GoesOn, answer-tells, reset-tells, said-all, same, unanswered, untold-owed, y-tells, y-window}
use Rattle.lard_law_progress.proofs.AnswersClientSays.{HasSaidAll, ack-current, ack-read, ack_said, refusal-read, refusal_said, says-nothing, says-one}
use Rattle.lard_law_progress.proofs.AnswersForm.{Replies, no-reply, seated}
use Rattle.lard_law_progress.proofs.Silence.{ack-una}
use Rattle.lard_rules.proofs.Saying.{client-done}

-- what goes out of what a client heard
abbrev pub segments_of : Heard × ClientBlock → List (Place × List ℕ)
segments_of r = station_ready_of r.1 r.0.reply ++ (client_speaks r.1).0

module _ (files : FilesAt) (p : Part) (st : Station) (z : SeatNow) (from : Place) (cluster : IsCluster from) (bytes : List ℕ) (s : Said) (calm : IsCalm st st.client)
    (tells : st.client.phase ≡ phase.Open → SeatTells st.client z) (reply : IsReply st st.client z s) (read : decoded bytes st.client.c ToClient ≡ Ok s) where
  abbrev x : ClientBlock
  x = st.client

  abbrev t : Spot
  t = seated files p st z

  abbrev came : Letter
  came = record { from = from; to = Client x.c; bytes = bytes }

  abbrev pub Answered : List (Place × List ℕ) → Type 0
  Answered segments = Replies files t x.c came (map (letter (Client x.c)) segments ++ [])

  -- ---- how long the chain of what came is, and whether it is near

  chain-is : chain t x.c came ≡ cond (s.flags.rst && not s.flags.ack) 0 2
  chain-is = by-place from cluster ∙ ap reply_chain read where
    by-place : (f : Place) → IsCluster f → chain t x.c (record { from = f; to = Client x.c; bytes = bytes }) ≡ reply_chain (decoded bytes x.c ToClient)
    by-place Front h = refl
    by-place (Node n) h = refl
    by-place (Client d) h = absurd h

  near-is : (d : ℕ) → Near files t x.c d came → NearSegment t d s (post_of files x z)
  near-is d near = subst (OfSegment (λ (s : Said). NearSegment t d s (post_of files x z))) read (by-place from cluster near) where
    by-place : (f : Place) → IsCluster f → Near files t x.c d (record { from = f; to = Client x.c; bytes = bytes }) → OfSegment (λ (s : Said). NearSegment t d s (post_of files x z)) (decoded bytes x.c ToClient)
    by-place Front h near = near
    by-place (Node n) h near = near
    by-place (Client d) h near = absurd h

  abbrev IsFar : Type 0
  IsFar = (d : ℕ) → NearSegment t (suc d) s (post_of files x z) → ⊥

  -- ---- nothing is said

  silent : (segments : List (Place × List ℕ)) → segments ≡ [] → IsFar → Answered segments
  silent segments none far = subst Answered (sym none) (no-reply files t x.c came (λ d near. far d (near-is (suc d) near)))

  -- ---- one segment is said

  -- which is read so, and has a chain of one
  alone : (segment : Place × List ℕ) (said : Said) → segment.0 ≡ Front → decoded segment.1 x.c ToCluster ≡ Ok said → (said.flags.rst || is_current t said) ≡ true → (s.flags.rst && not s.flags.ack) ≡ false
      → ((d : ℕ) → NearSegment t (suc d) s (post_of files x z) → NearWord t d said (post_of files x z)) → Answered (segment ∷ [])
  alone segment said to is short some leads =
      let one : word_result t (decoded segment.1 x.c ToCluster) ≡ 0 = ap (word_result t) is ∙ cond-true (said.flags.rst || is_current t said) 0 3 short in
      let at : chain t x.c (letter (Client x.c) segment) ≡ word_result t (decoded segment.1 x.c ToCluster) + 1 = ap (λ (q : Place). chain t x.c (record { from = Client x.c; to = q; bytes = segment.1 })) to in
      let two : chain t x.c came ≡ 2 = chain-is ∙ cond-false (s.flags.rst && not s.flags.ack) 0 2 some in
      record {
        shorter = (omega (arith, one, at, two), tt);
        leads = λ d near.
            let word : NearWord t d said (post_of files x z) = leads d (near-is (suc d) near) in
            let there : OfSegment (λ (s : Said). NearWord t d s (post_of files x z)) (decoded segment.1 x.c ToCluster) = subst (OfSegment (λ (s : Said). NearWord t d s (post_of files x z))) (sym is) word in
            inl (inl (subst (λ (q : Place). Near files t x.c d (record { from = Client x.c; to = q; bytes = segment.1 })) (sym to) there));
      }

  -- ---- a client that is not open says nothing of itself

  nothing-more : (client_speaks x).0 ≡ []
  nothing-more = ap (λ (r : List (Place × List ℕ) × ClientBlock). r.0) (client-done x calm.none)

  -- ---- one that was reset

  reset-far : x.phase ≡ phase.Reset → IsFar
  reset-far is d near = go z near where
    go : (q : SeatNow) → NearSegment t (suc d) s (post_of files x q) → ⊥
    go (Held b count) h = subst (λ (ph : Phase). NearReply t 2 (suc d) (ends_of x b) s ph) is h
    go (Here aware n e b u) h = subst (λ (ph : Phase). NearReply t 3 (suc d) (ends_of x b) s ph) is h
    go (Over last) h = subst (λ (ph : Phase). NearClosing t (suc d) (symbols_taken x) s last.reason ph) is h
    go _ h = h

  -- ---- one that was aborted

  abort-parts : x.phase ≡ phase.Aborted → (d : ℕ) → NearSegment t (suc d) s (post_of files x z) → (s.flags.ack ≡ true) × (s.flags.rst ≡ false)
  abort-parts is d near = go z near where
    go : (q : SeatNow) → NearSegment t (suc d) s (post_of files x q) → (s.flags.ack ≡ true) × (s.flags.rst ≡ false)
    go (Held b count) h = let k = subst (λ (ph : Phase). NearReply t 2 (suc d) (ends_of x b) s ph) is h in (k.0, k.1)
    go (Here aware n e b u) h = let k = subst (λ (ph : Phase). NearReply t 3 (suc d) (ends_of x b) s ph) is h in (k.0, k.1)
    go (Over last) h = absurd (subst (λ (ph : Phase). NearClosing t (suc d) (symbols_taken x) s last.reason ph) is h)
    go _ h = absurd h

  abort-leads : x.phase ≡ phase.Aborted → (d : ℕ) → NearSegment t (suc d) s (post_of files x z) → NearWord t d (refusal_said s.ack) (post_of files x z)
  abort-leads is d near = go z near where
    held : (d : ℕ) (e : EndpointSymbols) → s.ack ≡ e.awaited → 1 ≤ d → NearHeld t d e (refusal_said s.ack) x.phase
    held d e at some = subst (λ (ph : Phase). NearHeld t d e (refusal_said s.ack) ph) (sym is) (refl, at, some)

    away : (d : ℕ) (e : EndpointSymbols) → s.ack ≡ e.awaited → 2 ≤ d → NearAway t d e (refusal_said s.ack)
    away zero e at some = absurd (omega (arith, some))
    away (suc d) e at some = held d e at (omega (arith, some))

    go : (q : SeatNow) → NearSegment t (suc d) s (post_of files x q) → NearWord t d (refusal_said s.ack) (post_of files x q)
    go (Held b count) h = let k = subst (λ (ph : Phase). NearReply t 2 (suc d) (ends_of x b) s ph) is h in held d (ends_of x b) k.2 (let two : 2 ≤ suc d = k.3 in omega (arith, two))
    go (Here aware n e b u) h = let k = subst (λ (ph : Phase). NearReply t 3 (suc d) (ends_of x b) s ph) is h in away d (ends_of x b) k.2 (let two : 3 ≤ suc d = k.3 in omega (arith, two))
    go (Over last) h = absurd (subst (λ (ph : Phase). NearClosing t (suc d) (symbols_taken x) s last.reason ph) is h)
    go _ h = absurd h

  abort-answers : x.phase ≡ phase.Aborted → Answered (segments_of (reply_to x s, x))
  abort-answers is = go (s.flags.ack && not s.flags.rst) refl where
    no-reset : (a r : Bool) → (a && not r) ≡ true → (r && not a) ≡ false
    no-reset true true e = absurd (let bad : false ≡ true = e in cc)
    no-reset true false e = refl
    no-reset false r e = absurd (let bad : false ≡ true = e in cc)

    yes : (a r : Bool) → a ≡ true → r ≡ false → (a && not r) ≡ true
    yes true r e f = ap not f
    yes false r e f = absurd (let bad : false ≡ true = e in cc)

    go : (q : Bool) → (s.flags.ack && not s.flags.rst) ≡ q → Answered (station_ready_of x (cond q (Some (client_refusal x s.ack)) None) ++ (client_speaks x).0)
    go false e = silent (client_speaks x).0 nothing-more (λ d near. let h = abort-parts is d near in let bad : true ≡ false = sym (yes s.flags.ack s.flags.rst h.0 h.1) ∙ e in cc)
    go true e = subst (λ (ss : List (Place × List ℕ)). Answered (to_front x (client_refusal x s.ack) ∷ ss)) (sym nothing-more)
        (alone (to_front x (client_refusal x s.ack)) (refusal_said s.ack) refl (refusal-read x s.ack reply.ack_small) refl (no-reset s.flags.ack s.flags.rst e) (abort-leads is))

  -- ---- one that is not established

  module _ (open_ : x.phase ≡ phase.Open) (new : (x.send.una == 0) ≡ true) where
    una : x.send.una ≡ 0
    una = eqb-true x.send.una 0 new

    none-taken : symbols_taken x ≡ 0
    none-taken = cond-true (x.send.una == 0) 0 (1 + x.accepted + cond x.eof 1 0) new

    -- what is near is the SYN, and acknowledges the client's
    abbrev IsSyn : Type 0
    IsSyn = (answers_syn x s ≡ true) × (s.flags.rst ≡ false) × (s.flags.syn ≡ true)

    syn-near : (d : ℕ) → NearSegment t (suc d) s (post_of files x z) → IsSyn
    syn-near d near = go z (tells open_) near where
      zero-too : (n : ℕ) → n ≤ 0 → (n == 0) ≡ true
      zero-too n e = grind (arith, nat_tests, e)

      all : (a : Bool) (o n : ℕ) → a ≡ true → o ≡ 1 → 1 ≤ n → (a && (o == 1 && nat_lt 0 n)) ≡ true
      all true o n e f g = grind (arith, nat_tests, f, g)
      all false o n e f g = absurd (let bad : false ≡ true = e in cc)

      of-end : (back : ℕ) (b : ControlBlock) → b.send.una ≤ symbols_taken x → NearReply t back (suc d) (ends_of x b) s x.phase → IsSyn
      of-end back b knows h = by (subst (λ (ph : Phase). NearReply t back (suc d) (ends_of x b) s ph) open_ h) where
        by : NearReply t back (suc d) (ends_of x b) s phase.Open → IsSyn
        by (inl u) =
            let n = none-taken in
            let k = u.0 in
            let one = calm.alone open_ una in
            (all s.flags.ack (seq_offset s.ack x.send.iss) x.send.nxt k.acks (reply.greets open_ una k.acks) (omega (arith, one)), k.no_rst, k.syn ∙ zero-too b.send.una (omega (arith, knows, n)))
        by (inr u) = absurd (let e : b.send.una ≡ symbols b.send = u.1 in let n = none-taken in omega (arith, e, n, knows))

      at-end : (why : Reason) → EndTells x why → NearLast t (suc d) (symbols_taken x) s why → ⊥
      at-end reason.Closed k h = let bad : true ≡ false = sym new ∙ k in cc
      at-end reason.Peer k h = h
      at-end reason.Limit k h = let bad : true ≡ false = sym new ∙ k in cc

      go : (q : SeatNow) → SeatTells x q → NearSegment t (suc d) s (post_of files x q) → IsSyn
      go (Held b count) k h = of-end 2 b k.0 h
      go (Here aware n e b u) k h = absurd (let bad : true ≡ false = sym new ∙ k.1 in cc)
      go (Over last) k h = absurd (at-end last.reason k (subst (λ (ph : Phase). NearClosing t (suc d) (symbols_taken x) s last.reason ph) open_ h))
      go _ k h = absurd h

    abbrev OnGreeting : Heard × ClientBlock → Type 0
    OnGreeting r = GoesOn x r.1 → Answered (segments_of r)

    greeting-answers : OnGreeting (on_greeting x s)
    greeting-answers = cond_both {A = Heard × ClientBlock} (not (answers_syn x s)) (heard_nothing, x) (cond s.flags.rst (heard_nothing, reset_by_peer x) (cond s.flags.syn (heard_nothing, established x s) (heard_nothing, x))) OnGreeting
        (λ e goes. silent (client_speaks x).0 nothing-more (λ d near. let h = syn-near d near in let bad : false ≡ true = sym (ap not h.0) ∙ e in cc))
        (λ e. cond_both {A = Heard × ClientBlock} s.flags.rst (heard_nothing, reset_by_peer x) (cond s.flags.syn (heard_nothing, established x s) (heard_nothing, x)) OnGreeting
        (λ f goes. absurd (let bad : phase.Reset ≡ phase.Open = goes.phase ∙ open_ in cc))
        (λ f. cond_both {A = Heard × ClientBlock} s.flags.syn (heard_nothing, established x s) (heard_nothing, x) OnGreeting
        (λ g goes. absurd (greets e goes))
        (λ g goes. silent (client_speaks x).0 nothing-more (λ d near. let h = syn-near d near in let bad : true ≡ false = sym h.2 ∙ g in cc))))
      where
        first : (a : Bool) (o n : ℕ) → not (a && (o == 1 && nat_lt 0 n)) ≡ false → o ≡ 1
        first true o n e = grind (arith, nat_tests, e)
        first false o n e = absurd (let bad : true ≡ false = e in cc)

        under : (a b : ℕ) → b ≤ a → nat_lt a b ≡ false
        under a b e = grind (arith, nat_tests, e)

        over : (a b : ℕ) → a < b → nat_lt a b ≡ true
        over a b e = grind (arith, nat_tests, e)

        -- then it knows that its SYN was taken
        greets : not (answers_syn x s) ≡ false → GoesOn x (established x s) → ⊥
        greets e goes =
            let off : seq_offset s.ack x.send.iss ≡ 1 = first s.flags.ack (seq_offset s.ack x.send.iss) x.send.nxt e in
            let one = calm.alone open_ una in
            let n = una in
            let h : Sending = introduced x.send s.seq (peer_mss s.mss) in
            let up : (established x s).send.una ≡ seq_offset s.ack x.send.iss = ack-una h s.ack s.seq s.wnd (under x.send.nxt (seq_offset s.ack x.send.iss) (omega (arith, off, one))) (over x.send.una (seq_offset s.ack x.send.iss) (omega (arith, off, n))) in
            let same_una : (established x s).send.una ≡ x.send.una = goes.una in
            omega (arith, up, same_una, off, n)

  -- ---- one that is

  module _ (open_ : x.phase ≡ phase.Open) (old : (x.send.una == 0) ≡ false) where
    abbrev y : ClientBlock
    y = (client_on_segment x s).1

    abbrev Word : ℕ → SeatNow → Type 0
    Word d q = NearWord t d (ack_said y) (post_of files x q)

    -- what is near is owed an acknowledgement, that is news
    module _ (goes : GoesOn x y) where
      current : is_current t (ack_said y) ≡ true
      current =
          let i : y.send.iss ≡ x.send.iss = (same st s calm open_ old z reply).iss in
          let n : y.send.nxt ≡ x.send.nxt = (same st s calm open_ old z reply).nxt in
          let all : symbols x.send ≤ x.send.nxt = calm.all open_ old in
          let most : x.send.nxt ≤ symbols x.send = calm.sound.queued in
          let few : symbols x.send ≤ 2 ^ 31 = calm.few in
          let small : x.send.iss < 2 ^ 32 = calm.isn_small in
          ack-current t y (omega (arith, i, small)) (sym i) (omega (arith, n, all, most)) (omega (arith, n, most, few))

      news : (e : EndpointSymbols) → e.una < took y → IsNews t e (ack_said y)
      news e more = record { current = current; more = let is = y-tells st s calm open_ old z reply in omega (arith, is, more) }

      held : (d : ℕ) (e : EndpointSymbols) → e.una < took y → 1 ≤ d → NearHeld t d e (ack_said y) x.phase
      held d e more some = subst (λ (ph : Phase). NearHeld t d e (ack_said y) ph) (sym open_) (inl (news e more, some))

      away : (d : ℕ) (e : EndpointSymbols) → e.una < took y → 2 ≤ d → NearAway t d e (ack_said y)
      away zero e more some = absurd (omega (arith, some))
      away (suc d) e more some = held d e more (omega (arith, some))

      -- an acknowledgement of all that the endpoint has is at the number that the client awaits
      answered-all : (b : ControlBlock) → Matters z → b.send.una ≤ symbols_taken x → (b.send.una ≡ symbols b.send → symbols_taken x ≤ b.send.una) → IsAnswer t b.send.una s → b.send.una ≡ symbols b.send → ⊥
      answered-all b bound knows all h e =
          let at : b.send.una ≡ symbols_taken x = let l = all e in omega (arith, l, knows) in
          answer-tells st s calm open_ old z reply t bound refl refl refl (subst (λ n. IsAnswer t n s) at h) goes

      abbrev Leads : ℕ → SeatNow → Type 0
      Leads d q = (y.owed ≡ true) × Word d q

      leads : (d : ℕ) → NearSegment t (suc d) s (post_of files x z) → Leads d z
      leads d near = go z refl (tells open_) near where
        of-end : (back : ℕ) (b : ControlBlock) (W : Type 0) → Matters z → (b.send.una ≤ symbols_taken x) × (b.send.una ≡ symbols b.send → symbols_taken x ≤ b.send.una) → (back ≤ suc d → b.send.una < took y → W) → NearReply t back (suc d) (ends_of x b) s x.phase
            → (y.owed ≡ true) × W
        of-end back b W bound knows word h = by (subst (λ (ph : Phase). NearReply t back (suc d) (ends_of x b) s ph) open_ h) where
          by : NearReply t back (suc d) (ends_of x b) s phase.Open → (y.owed ≡ true) × W
          by (inl u) = let k = untold-owed st s calm open_ old z reply t (ends_of x b) refl knows.0 bound u.0 in (k.0, word u.1 k.1)
          by (inr u) = absurd (answered-all b bound knows.0 knows.1 u.0 u.1)

        at-end : (why : Reason) → (why ≡ reason.Closed → Matters z) → NearLast t (suc d) (symbols_taken x) s why → ⊥
        at-end reason.Closed bound h = answer-tells st s calm open_ old z reply t (bound refl) refl refl refl h.0 goes
        at-end reason.Peer bound h = h
        at-end reason.Limit bound h = reset-tells st s calm open_ old z reply t refl h.0 h.1 goes

        go : (q : SeatNow) → z ≡ q → SeatTells x q → NearSegment t (suc d) s (post_of files x q) → Leads d q
        go (Held b count) is k h = of-end 2 b (Word d (Held b count)) (subst Matters (sym is) tt) k (λ two more. held d (ends_of x b) more (omega (arith, two))) h
        go (Here aware n e b u) is k h = of-end 3 b (Word d (Here aware n e b u)) (subst Matters (sym is) tt) k.0 (λ two more. away d (ends_of x b) more (omega (arith, two))) h
        go (Over last) is k h = absurd (at-end last.reason (λ e. subst Matters (sym is) e) (subst (λ (ph : Phase). NearClosing t (suc d) (symbols_taken x) s last.reason ph) open_ h))
        go _ is k h = absurd h

      segment-answers : Answered (segments_of (client_on_segment x s))
      segment-answers = subst (λ (o : Option Ready). Answered (station_ready_of y o ++ (client_speaks y).0)) (sym (heard-quiet x s)) (by-owed y.owed refl) where
        all : HasSaidAll y
        all = said-all st s calm open_ old z reply goes

        by-owed : (q : Bool) → y.owed ≡ q → Answered (client_speaks y).0
        by-owed false e = silent (client_speaks y).0 (ap (λ (r : List (Place × List ℕ) × ClientBlock). r.0) (says-nothing y all e)) (λ d near. let bad : true ≡ false = sym (leads d near).0 ∙ e in cc)
        by-owed true e = subst Answered (sym (ap (λ (r : List (Place × List ℕ) × ClientBlock). r.0) (says-one y all e))) (alone (to_front (client_told y) (client_ack_ready y)) (ack_said y) refl said current (not-refusal s.flags.rst refl s.flags.ack refl e) (λ d near. (leads d near).1)) where
          said : decoded (to_front (client_told y) (client_ack_ready y)).1 x.c ToCluster ≡ Ok (ack_said y)
          said =
              let w = y-window st s calm open_ old z reply in
              let small : x.wnd < 2 ^ 16 = calm.small in
              ap (λ c. decoded (to_front (client_told y) (client_ack_ready y)).1 c ToCluster) (sym (same st s calm open_ old z reply).c) ∙ ack-read y (omega (arith, w, small))

          not-refusal : (r : Bool) → s.flags.rst ≡ r → (a : Bool) → s.flags.ack ≡ a → y.owed ≡ true → (r && not a) ≡ false
          not-refusal false f a g owed = refl
          not-refusal true f true g owed = refl
          not-refusal true f false g owed = absurd (unanswered st s calm open_ old z reply goes f g owed)

  -- ---- all of them

  arrives-by : (ph : Phase) → x.phase ≡ ph → client_arrived x s ≡ heard_in ph x s
  unfolding client_arrived
  arrives-by ph e = ap (λ (q : Phase). heard_in q x s) e

  pub heard-answers : GoesOn x (client_arrived x s).1 → Answered (segments_of (client_arrived x s))
  heard-answers goes = by-phase x.phase refl where
    back : (r : Heard × ClientBlock) → client_arrived x s ≡ r → (GoesOn x r.1 → Answered (segments_of r)) → Answered (segments_of (client_arrived x s))
    back r e h = subst (λ (q : Heard × ClientBlock). Answered (segments_of q)) (sym e) (h (subst (λ (q : Heard × ClientBlock). GoesOn x q.1) e goes))

    by-phase : (ph : Phase) → x.phase ≡ ph → Answered (segments_of (client_arrived x s))
    by-phase phase.Reset e = back (heard_nothing, x) (arrives-by phase.Reset e) (λ g. silent (client_speaks x).0 nothing-more (reset-far e))
    by-phase phase.Aborted e = back (reply_to x s, x) (arrives-by phase.Aborted e) (λ g. abort-answers e)
    by-phase phase.Open e = by-una (x.send.una == 0) refl where
      by-una : (q : Bool) → (x.send.una == 0) ≡ q → Answered (segments_of (client_arrived x s))
      by-una true f = back (on_greeting x s) (arrives-by phase.Open e ∙ cond-true (x.send.una == 0) (on_greeting x s) (client_on_segment x s) f) (greeting-answers e f)
      by-una false f = back (client_on_segment x s) (arrives-by phase.Open e ∙ cond-false (x.send.una == 0) (on_greeting x s) (client_on_segment x s) f) (segment-answers e f)
