-- What comes of a client's segment to a connection that the front end holds.
use Rattle.std.proofs.Common.{◌≡◌, ◌+◌, ◌⊎◌, ◌<◌, ◌≤◌, ◌==◌, ◌||◌, ℕ, suc, true, false, List, [], ◌∷◌, ◌++◌, length, map, Option, Some, None, Ok, inl, inr, ⊎_elim, refl, sym, ap, ◌∙◌, subst, arith}
use Rattle.std.proofs.lemmas.Bool.{and_parts, eqb-true, lt-ltb, or_cases}
use Rattle.lard_law_view.specs.Prelude.{Client, Conn, ControlBlock, Ending, Final, First, Front, FrontEnv, FrontRest, FrontRow, IsFrontEnv, Letter, Move, Phase, Place, Reading, Said, Service, Setting, Station, ToClient, ToCluster, Turn, ack_ready, decoded, emitted, front_rest, front_rests, heard, holds, letter, may_end, next_epoch, offering, on_segment, placed, rcv_nxt, seg_len, seq_offset, serving, serving_settled, settled_by, speaks, spelled, spoken, symbols, to_client, told, turn_of, with_front}
use Rattle.lard_bound.specs.Chains.{is_current, is_plain}
use Rattle.lard_bound.specs.Nears.{Crosses, IsNews, Near, NearHeld, NearReply, NearSegment, OfSegment}
use Rattle.lard_bound.specs.Progress.{Answers, Any, IsWarmWord, Lasts}
use Rattle.lard_bound.specs.Seats.{Held, Over, SeatNow, Waiting, seat_away, seat_of}
use Rattle.lard_bound.specs.Spots.{Spot, number_awaited, ends_of, post_of}
use Rattle.lard_bound.specs.Units.{Whole, symbols_taken}
use Rattle.lard_client.specs.declared.phase.Phase.TheVariants as phase
use Rattle.lard_dispatch.specs.declared.dispatch.First.TheVariants as first
use Rattle.lard_rules.specs.Front.{Does}
use Rattle.lard_rules.specs.FrontReading as reading
use Rattle.lard_handoff_front.specs.declared.row.FrontConn.TheVariants as stage
use Rattle.lard_journal.specs.declared.rec.Rec.TheVariants as rec
use Rattle.lard_law_progress.proofs.AnswersFrontAway.{Owes, does, l, word-chained, word-near}
use Rattle.lard_law_progress.proofs.AnswersFrontData.{all-sent, answer, answer-fits, answer-news, crosses-owes}
use Rattle.lard_law_progress.proofs.AnswersFrontGiven.{AtSeat, IsOnlyRefusal, IsTalking, IsWord, WasAwaited}
use Rattle.lard_law_progress.proofs.AnswersFrontHeld.{IsAsLeft, carries-on, held-as-left, no-reset, reads-nothing, same-window, window-came}
use Rattle.lard_law_progress.proofs.AnswersFrontSaying.{ack-known, at-awaited, current-fits, one-said, refused, says-to-client, settled-cases}
use Rattle.lard_law_progress.proofs.AnswersFrontSpots.{AnswersBy, answers-by, at_seat, away-cases, left-still, moves-on, unit-goes, words-short}
use Rattle.lard_law_progress.proofs.Ends.{IsSaid, speaks-said}
use Rattle.lard_law_progress.proofs.Reading.{Further, reads-further}
use Rattle.lard_law_progress.proofs.Silence.{IsSilent, plain-news, plain-parts, plain-silent}
use Rattle.lard_law_progress.proofs.Stays.{IsAlike}
use Rattle.lard_law_progress.proofs.Still.{alike-none}
use Rattle.lard_rules.specs.declared.places.Ending.TheVariants as ending
use Rattle.lard_rules.proofs.Saying.{speaks-done}
use Rattle.lard_segment.proofs.Again.{again}

module _ (k : Setting) (w : Whole) (x : Conn) (bytes : List ℕ) (st : Station) (was : x.part.station ≡ Some st) (s : Said) (reads_so : decoded bytes x.c ToCluster ≡ Ok s) (env : FrontEnv) (is_env : IsFrontEnv k x.c env)
    (row : FrontRow) (b : ControlBlock) (seat : seat_of x.part ≡ Held b (front_rest x.part.front.rest).count) (talk : IsTalking st b) (word : IsWord st (seat_of x.part) bytes s)
    (only : IsOnlyRefusal x (l k w x bytes)) (warm : IsWarmWord st.client s st.client.phase) where
  abbrev rest : FrontRest
  rest = front_rest x.part.front.rest

  abbrev t : Spot
  t = at_seat k.files x.part st (Held b rest.count)

  abbrev d : ControlBlock
  d = (on_segment b s).1

  abbrev start : Service
  start = serving d rest.count []

  abbrev done : Reading
  done = reading.front_reads env.serve (record { service = start; target = None })

  abbrev q : Service
  q = done.service

  abbrev e : ControlBlock
  e = (speaks env.serve.c q.block).1

  further : Further start q
  further = (reads-further env.serve start).0

  said : IsSaid q.block e
  said = speaks-said env.serve.c q.block

  -- ---- a refusal

  refusal : s.flags.rst ≡ true → (d ≡ record b { reset = true }) ⊎ (d ≡ b)
  refusal rst =
      let h = word.refuses rst (only s reads_so rst) in
      let a = subst (WasAwaited st s.seq) seat h.1 in
      refused st b s talk h.0 rst a.0 a.1 a.2

  resets-alone : s.flags.rst ≡ true → d.send ≡ b.send
  resets-alone rst = ⊎_elim (λ (r : d ≡ record b { reset = true }). ap (λ (z : ControlBlock). z.send) r) (λ (r : d ≡ b). ap (λ (z : ControlBlock). z.send) r) (refusal rst)

  window : (d.send.wnd ≡ b.send.wnd) ⊎ (d.send.wnd ≡ st.client.wnd)
  window = window-came st b s talk warm resets-alone

  -- ---- it acknowledges what the endpoint sent

  acked-sent : s.flags.ack ≡ true → seq_offset s.ack st.iss ≤ b.send.nxt
  acked-sent ack = let a : seq_offset s.ack st.iss ≤ symbols_taken st.client = word.acks ack in let c : symbols_taken st.client ≤ b.send.nxt = talk.sent in omega (arith, a, c)

  -- ---- where no unit goes

  module _ (left : IsAsLeft st b e rest.count q.count) (none : q.over ≡ None) (stays : may_end e ≡ false) where
    alike : IsAlike d q.block
    alike = reads-nothing st b s rest.count q e further said none left

    una-same : d.send.una ≡ b.send.una
    una-same = sym further.una ∙ sym said.una ∙ left.una

    never-reset : d ≡ record b { reset = true } → ⊥
    never-reset is = no-reset st b s rest.count q e further said alike stays is

    -- what ends a chain has no answer
    unanswered : (s.flags.rst || is_current t s) ≡ true → emitted q.block ≡ None
    unanswered ends = ⊎_elim
        (λ (rst : s.flags.rst ≡ true). ⊎_elim
        (λ (r : d ≡ record b { reset = true }). absurd (never-reset r))
        (λ (r : d ≡ b). alike-none d q.block (subst IsSilent (sym r) talk.silent) alike)
        (refusal rst))
        (λ (now : is_current t s ≡ true).
        let c = and_parts (is_plain s) (seq_offset s.seq t.isn == t.last) now in
        let p = plain-parts s.flags.syn s.flags.fin s.flags.rst s.flags.ack (length s.payload) c.0 in
        let fits = current-fits st b s talk word.seq_small c.0 (eqb-true (seq_offset s.seq t.isn) t.last c.1) in
        let known = ack-known st b s talk (acked-sent p.3) in
        let wnd = same-window st b s rest.count q e further said window left in
        alike-none d q.block (plain-silent b s talk.silent c.0 fits known una-same wnd).0 alike)
        (or_cases s.flags.rst (is_current t s) ends)

    -- news is a unit
    no-news : IsNews t (ends_of st.client b) s → ⊥
    no-news h =
        let c = and_parts (is_plain s) (seq_offset s.seq t.isn == t.last) h.current in
        let p = plain-parts s.flags.syn s.flags.fin s.flags.rst s.flags.ack (length s.payload) c.0 in
        let fits = current-fits st b s talk word.seq_small c.0 (eqb-true (seq_offset s.seq t.isn) t.last c.1) in
        let known = ack-known st b s talk (acked-sent p.3) in
        let more : b.send.una < seq_offset s.ack st.iss = h.more in
        let own : seq_offset s.ack b.send.iss ≡ seq_offset s.ack st.iss = ap (seq_offset s.ack) talk.iss in
        let up = plain-news b s c.0 fits known (lt-ltb b.send.una (seq_offset s.ack b.send.iss) (omega (arith, more, own))) in
        let same = una-same in omega (arith, up, same, more, own)

    abbrev ss : List (Place × List ℕ)
    ss = (speaks env.serve.c q.block).0

    -- data is acknowledged, and that is news to the client
    data-answered : (n : ℕ) → 1 ≤ n → st.client.phase ≡ phase.Open → Crosses t s → b.send.una ≡ symbols b.send → Any (λ a. Near k.files t x.c n a) (map (letter Front) ss ++ [])
    data-answered n some is h clear =
        let acked : seq_offset s.ack st.iss ≤ symbols_taken st.client = word.acks h.acks in
        let within = word.within h.no_rst (let a : seq_offset s.seq st.client.send.iss ≤ st.client.send.una = h.from in let c : st.client.send.una < seq_offset s.seq st.client.send.iss + seg_len s = h.to in omega (arith, a, c)) in
        let owes = crosses-owes st b s bytes talk acked word.seq_small within t refl refl h clear in
        let v = q.block in
        let one : ss ≡ to_client env.serve.c (told v) (ack_ready v) ∷ [] =
        one-said env.serve.c v (alike.reset ∙ owes.reset ∙ talk.silent.open_) (alike.owed ∙ owes.owed) (all-sent st b s bytes talk acked word.seq_small within v alike clear) in
        let a = answer st b s bytes talk acked word.seq_small within v alike in
        let sent : Letter = record { from = Front; to = Client env.serve.c; bytes = spelled env.serve.c ToClient a } in
        let news = answer-news st b s bytes talk acked word.seq_small within v alike t refl refl refl clear owes in
        let back : decoded sent.bytes x.c ToClient ≡ Ok a = ap (λ c. decoded (spelled c ToClient a) x.c ToClient) is_env.number ∙ again x.c ToClient a (answer-fits st b s bytes talk acked word.seq_small within v alike) in
        let reply : NearReply t 2 n (ends_of st.client b) a st.client.phase = subst (NearReply t 2 n (ends_of st.client b) a) (sym is) (inr (news, clear, some)) in
        let near : Near k.files t x.c n sent = subst (OfSegment (λ y. NearSegment t n y t.post)) (sym back) reply in
        subst (λ (zs : List (Place × List ℕ)). Any (λ a. Near k.files t x.c n a) (map (letter Front) zs ++ [])) (sym one) (inl near)

    led : (n : ℕ) → (ph : Phase) → st.client.phase ≡ ph → NearHeld t (suc n) (ends_of st.client b) s ph → Any (λ a. Near k.files t x.c n a) (map (letter Front) ss ++ [])
    led n phase.Open is near = ⊎_elim
        (λ (h : IsNews t (ends_of st.client b) s × (1 ≤ suc n)). absurd (no-news h.0))
        (λ (h : Crosses t s × (b.send.una ≡ symbols b.send) × (2 ≤ suc n)). data-answered n (let two : 2 ≤ suc n = h.2 in omega arith) is h.0 h.1)
        near
    led n phase.Aborted is near =
        let h = word.refuses near.0 (only s reads_so near.0) in
        let at : s.seq ≡ rcv_nxt b = near.1 ∙ ap (number_awaited b) is in
        absurd (never-reset (at-awaited st b s talk h.0 near.0 at))
    led n phase.Reset is near = absurd near

    pub answered-by : AnswersBy k.files t x.c (l k w x bytes) (map (letter Front) ss ++ [])
    answered-by = record {
      shorter = words-short t x.c env.serve.c (l k w x bytes) s (word-chained k w x bytes st was s reads_so t) ss (says-to-client env.serve.c q.block)
          (λ ends. ap (λ (r : List (Place × List ℕ) × ControlBlock). r.0) (speaks-done env.serve.c q.block (unanswered ends)));
      leads = λ n near. led n st.client.phase refl (word-near k w x bytes st was s reads_so t (suc n) near);
    }

  -- ---- what is done

  over : (last : Final) (turn : Turn) → seat_of (does k w x bytes (holds x.part.front row rest (ending.Over last, turn))).part ≡ Over last
  unfolding seat_of
  over last turn = refl

  held : (turn : Turn) → seat_of (does k w x bytes (holds x.part.front row rest (ending.Here e q.count, turn))).part ≡ Held e q.count
  unfolding seat_of
  held turn = refl

  -- it is held on, or ends
  held-owes : Owes k w x bytes (holds x.part.front row rest (serving_settled env.serve q))
  held-owes = settled-cases env.serve q (λ (g : Ending × Turn). Owes k w x bytes (holds x.part.front row rest g))
      (λ last turn lasts later.
      let v = does k w x bytes (holds x.part.front row rest (ending.Over last, turn)) in
      unit-goes k w x v (l k w x bytes) (λ up. let bad = moves-on k w x v (l k w x bytes) st was was (Held b rest.count) (Over last) seat (over last turn) lasts up in cc))
      (λ none stays lasts later.
      let turn = turn_of q ([] ++ (speaks env.serve.c q.block).0) in
      let v = does k w x bytes (holds x.part.front row rest (ending.Here e q.count, turn)) in
      answers-by k w x v (l k w x bytes) st was lasts (Held b rest.count) seat (λ up.
      let there = subst (AtSeat w st) (held turn) (later.seats st was) in
      let left = held-as-left w k.nodes k.files x.part st b e rest.count q.count (front_rests x.part.front row rest stage.Held (ending.Here e q.count)) seat (held turn)
      (carries-on st b s rest.count q e further said window) (record { acked = there.0.acked; taken_in = there.2; few = there.1 }) (left-still k w x v (l k w x bytes) st was was up) in
      answered-by left none stays))

  -- ---- or it is placed

  apart : (z : SeatNow) → (post_of k.files st.client z ≡ post_of k.files st.client (Held b rest.count) → ⊥) → (v : Move) → v.part.station ≡ Some st → seat_of v.part ≡ z → Lasts k w x v → Answers k w x v (l k w x bytes)
  apart z never v is now lasts = unit-goes k w x v (l k w x bytes) (λ up. never (moves-on k w x v (l k w x bytes) st was is (Held b rest.count) z seat now lasts up))

  offered : (path : List ℕ) (node : ℕ) → seat_of (with_front x.part (offering env row q path node)) ≡ seat_away false node (next_epoch row).0 q.count (x.part.nodes node)
  unfolding seat_of
  offered path node = refl

  waits : (more : FrontRest) (c : ControlBlock) (n : ℕ) → seat_of (with_front x.part (front_rests x.part.front row more stage.Waiting (ending.Here c n))) ≡ Waiting c n
  unfolding seat_of
  waits more c n = refl

  stops : (more : FrontRest) (last : Final) → seat_of (with_front x.part (front_rests x.part.front row more stage.Waiting (ending.Over last))) ≡ Over last
  unfolding seat_of
  stops more last = refl

  ends : (more : FrontRest) (g : Ending) → post_of k.files st.client (seat_of (with_front x.part (front_rests x.part.front row more stage.Waiting g))) ≡ post_of k.files st.client (Held b rest.count) → ⊥
  ends more (ending.Here c n) f = let bad = sym (ap (post_of k.files st.client) (waits more c n)) ∙ f in cc
  ends more (ending.Over last) f = let bad = sym (ap (post_of k.files st.client) (stops more last)) ∙ f in cc

  placed-owes : (path : List ℕ) (f : First) → Owes k w x bytes (Does (placed env x.part.front row rest q path f))
  placed-owes path (first.Go choice) lasts later =
      apart (seat_away false choice.node (next_epoch row).0 q.count (x.part.nodes choice.node))
      (away-cases false choice.node (next_epoch row).0 q.count (x.part.nodes choice.node)
      (λ (z : SeatNow). post_of k.files st.client z ≡ post_of k.files st.client (Held b rest.count) → ⊥) (λ f. cc) (λ f. cc) (λ c f. cc) (λ f. cc)
      (λ served f. cc))
      (does k w x bytes (Does (placed env x.part.front row rest q path (first.Go choice)))) was (offered path choice.node) lasts
  placed-owes path first.Waits lasts later =
      let g = spoken env.serve (record q { notes = q.notes ++ rec.Waits env.serve.c ∷ [] }) [] in
      let v = does k w x bytes (Does (placed env x.part.front row rest q path first.Waits)) in
      apart (seat_of v.part) (ends (record rest { target = Some path }) g.0) v was refl lasts

  pub heard-owes : Owes k w x bytes (heard env x.part.front row rest d)
  heard-owes = go done.target where
    go : (o : Option (List ℕ)) → Owes k w x bytes (settled_by env x.part.front row rest q o)
    go None = held-owes
    go (Some path) = placed-owes path (env.first path)
