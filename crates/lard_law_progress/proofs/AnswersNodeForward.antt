-- What comes of a segment that is forwarded to a node: to a refusal and to an acknowledgement with the client's last number nothing, to data
-- of which the client does not know that it was taken an acknowledgement that is news.
use Rattle.std.proofs.Common.{◌≡◌, ◌⊎◌, ◌<◌, ◌≤◌, ◌+◌, ◌==◌, ◌&&◌, ◌||◌, nat_lt, not, ℕ, suc, Bool, true, false, cond, List, [], ◌∷◌, ◌++◌, length, map, Option, Some, None, Result, Ok, Err, inl, inr, ⊎_elim, refl, sym, ap, ◌∙◌, subst, arith}
use Rattle.std.proofs.lemmas.Bool.{and_parts, cond-false, eqb-true, or_cases}
use Rattle.std.proofs.lemmas.Bool.Decides.{nat_tests}
use Rattle.lard_law_view.specs.Prelude.{Body, Client, Conn, ControlBlock, FilesAt, Front, IsNodeEnv, Letter, Message, MsgFault, Node, NodeEnv, NodePart, Part, Phase, Place, Said, SegFault, Setting, SpellsMessage, Station, Stay, ToClient, ToCluster, Was, Work, ack_ready, decoded, decoded_message, goes_on, here, kept_after, letter, node_forwarded, node_heard_by, node_rests, node_turns, on_segment, seg_len, seq_offset, spelled, symbols, to_client, told, with_node, with_work, work_of}
use Rattle.lard_bound.specs.Chains.{aside_chain, chain, front_chain, is_current, is_plain, node_chain, of_message, reply_chain, word_chain, word_result}
use Rattle.lard_bound.specs.Nears.{Crosses, IsNews, Near, NearForward, NearHeld, NearReply, NearSegment, NearTold, OfMessage, OfSegment}
use Rattle.lard_bound.specs.Progress.{Any, Every, IsFetch, IsWarm, IsWarmBody, IsWarmBy, IsWarmMessage, IsWarmSegment, IsWarmWord}
use Rattle.lard_bound.specs.Seats.{Here, SeatNow, seat_of, staying_of}
use Rattle.lard_bound.specs.Spots.{Post, Spot, number_awaited, ends_of, post_of, spot_of}
use Rattle.lard_bound.specs.Units.{Whole, left_with, symbols_taken}
use Rattle.lard_client.specs.declared.phase.Phase.TheVariants as phase
use Rattle.lard_message.specs.declared.message.Body.TheVariants as body
use Rattle.lard_rules.specs.Node as node
use Rattle.lard_law_progress.proofs.AnswersForm.{Replies, seated, seated-is}
use Rattle.lard_law_progress.proofs.AnswersFrontData.{all-sent, answer, answer-fits, answer-news, crosses-owes}
use Rattle.lard_law_progress.proofs.AnswersFrontGiven.{IsTalking}
use Rattle.lard_law_progress.proofs.AnswersFrontSaying.{ack-known, at-awaited, current-fits, one-said, refused}
use Rattle.lard_law_progress.proofs.AnswersNodeComing.{at-same}
use Rattle.lard_law_progress.proofs.AnswersNodeDeeds.{OwesBy, does-owes, drops-owes, is-here, turns-owes}
use Rattle.lard_law_progress.proofs.AnswersNodeGiven.{IsForwarded}
use Rattle.lard_law_progress.proofs.AnswersNodeHearing.{Hears, IsStill, alike, hears-stale, no-messages, not-reset, same-window, segments-are, silent-segments, stale-same, una-same, v}
use Rattle.lard_law_progress.proofs.AnswersNodeSeats.{IsHere, Sits, here-both, here-seat, seat-sits}
use Rattle.lard_law_progress.proofs.AnswersNodeStill.{left_here, still, still-seat}
use Rattle.lard_law_progress.proofs.Away.{here-row}
use Rattle.lard_law_progress.proofs.Silence.{IsSilent, heard-kept, plain-news, plain-parts, plain-silent}
use Rattle.lard_law_progress.proofs.Data.{IsOwing}
use Rattle.lard_law_progress.proofs.Stays.{read_of}
use Rattle.lard_rules.specs.declared.places.Ending.TheVariants as ending
use Rattle.lard_rules.proofs.NodeCases.{IsHereWith, where-here}
use Rattle.lard_segment.proofs.Again.{again}

-- ---- all that a node sends has a chain of two at the most

by-place : (t : Spot) (c n : ℕ) (to : Place) (bytes : List ℕ) → chain t c (record { from = Node n; to = to; bytes = bytes }) ≤ 2
by-place t c n (Client d) bytes = reply (decoded bytes c ToClient) where
  reply : (r : Result Said SegFault) → reply_chain r ≤ 2
  reply (Err fault) = omega arith
  reply (Ok s) = go (not s.flags.ack) s.flags.rst where
    go : (a r : Bool) → cond (r && a) 0 2 ≤ 2
    go true true = omega arith
    go false true = omega arith
    go true false = omega arith
    go false false = omega arith
by-place t c n Front bytes = say (decoded_message bytes) where
  body-most : (b : Body) → node_chain b ≤ 2
  body-most (body.Ask number queue size paths) = omega arith
  body-most _ = omega arith

  say : (r : Result Message MsgFault) → of_message (λ (m : Message). node_chain m.body) r ≤ 2
  say (Err fault) = omega arith
  say (Ok m) = body-most m.body
by-place t c n (Node k) bytes = say (decoded_message bytes) where
  body-most : (b : Body) → aside_chain b ≤ 2
  body-most (body.Fetch r path) = omega arith
  body-most _ = omega arith

  say : (r : Result Message MsgFault) → of_message (λ (m : Message). aside_chain m.body) r ≤ 2
  say (Err fault) = omega arith
  say (Ok m) = body-most m.body

all-short : (t : Spot) (c n most : ℕ) → 3 ≤ most → (ss more : List (Place × List ℕ)) → Every (λ a. chain t c a < most) (map (letter (Node n)) ss ++ map (letter (Node n)) more)
all-short t c n most h [] [] = tt
all-short t c n most h [] (s ∷ more) = (let l = by-place t c n s.0 s.1 in omega (arith, l, h), all-short t c n most h [] more)
all-short t c n most h (s ∷ ss) more = (let l = by-place t c n s.0 s.1 in omega (arith, l, h), all-short t c n most h ss more)

-- ---- what is near at its node

-- node n has the connection in epoch e, and the segment is near there
abbrev pub ForwardAt : FilesAt → Part → Station → ℕ → ℕ → ℕ → Spot → Said → Type 0
ForwardAt files p st n e d t s = (told : Bool) × (b : ControlBlock) × IsHere p told n e b × NearHeld t d (ends_of st.client b) s st.client.phase

pub forward-awaits : (files : FilesAt) (p : Part) (st : Station) (n e d : ℕ) (s : Said) → let t = seated files p st (seat_of p) in NearForward t d n e (Ok s) t.post → ForwardAt files p st n e d t s
forward-awaits files p st n e d s near = go (seat_of p) (seat-sits p) near where
  t : Spot
  t = seated files p st (seat_of p)

  go : (z : SeatNow) → Sits p z → NearForward t d n e (Ok s) (post_of files st.client z) → ForwardAt files p st n e d t s
  go (Here told m f b u) sits h = (told, b, at-same p told n m e f b h.0 h.1 sits.0, h.2)
  go _ sits h = absurd h

-- ---- the rule

module _ (k : Setting) (w : Whole) (x : Conn) (n epoch : ℕ) (env : NodeEnv) (of : IsNodeEnv k x.c n epoch env) (segment bytes : List ℕ) (spells : SpellsMessage x.c epoch (body.Forward segment) bytes)
    (was : Was x Front (Node n) bytes) where
  abbrev q : NodePart
  q = x.part.nodes n

  abbrev Forwards : node.NodeDeed → Type 0
  Forwards deed = OwesBy k w x n Front bytes was deed

  abbrev came : Letter
  came = record { from = Front; to = Node n; bytes = bytes }

  chain-is : (t : Spot) → chain t x.c came ≡ word_result t (decoded segment x.c ToCluster)
  chain-is t = ap (of_message (λ (m : Message). front_chain t x.c m.body)) spells

  near-is : (t : Spot) (d : ℕ) → Near k.files t x.c d came → NearForward t d n epoch (decoded segment x.c ToCluster) t.post
  near-is t d near =
      let h : NearTold t x.c d n epoch (body.Forward segment) = subst (OfMessage (λ (m : Message). NearTold t x.c d n m.epoch.0 m.body)) spells near in h

  -- what is near is at this node
  at-node : (st : Station) (d : ℕ) (s : Said) → decoded segment x.c ToCluster ≡ Ok s → Near k.files (spot_of k.files x.part st) x.c d came
      → ForwardAt k.files x.part st n epoch d (seated k.files x.part st (seat_of x.part)) s
  at-node st d s read near =
      let t = seated k.files x.part st (seat_of x.part) in
      let here : Near k.files t x.c d came = subst (λ (u : Spot). Near k.files u x.c d came) (seated-is k.files x.part st) near in
      forward-awaits k.files x.part st n epoch d s (subst (λ (r : Result Said SegFault). NearForward t d n epoch r t.post) read (near-is t d here))

  module _ (st : Station) (s : Said) (read : decoded segment x.c ToCluster ≡ Ok s) (told_ : Bool) (b : ControlBlock) (at_ : IsHere x.part told_ n env.epoch b) (stay : Stay) (stay_is : q.stay ≡ Some stay)
      (talk : IsTalking st b) (word : IsForwarded st b s) (late : s.flags.rst ≡ true → s.flags.ack ≡ false) (warm : IsWarmWord st.client s st.client.phase) where
    abbrev d0 : ControlBlock
    d0 = (on_segment b s).1

    abbrev z : SeatNow
    z = Here told_ n env.epoch b (staying_of q)

    abbrev t : Spot
    t = seated k.files x.part st z

    abbrev turn : Work
    turn = v w k.nodes k.files x.part st told_ n b env at_ d0 stay stay_is

    hears : Hears w k.nodes k.files x.part st told_ n b env at_ d0 stay stay_is
    hears = record { shut = (heard-kept b s).finished; stale = hears-stale st b env s talk warm }

    module _ (still : IsStill w k.nodes k.files x.part st told_ n b env at_ d0 stay stay_is) (few : read_of turn ≤ w.requests)
        (up : left_with w k.nodes x.part st ≤ left_with w k.nodes (with_node x.part n (node_rests env q [] turn).0) st) where
      abbrev segments : List (Place × List ℕ)
      segments = (node_rests env q [] turn).1.segments

      abbrev Sent : List (Place × List ℕ) → List Letter
      Sent ss = map (letter (Node n)) ss ++ map (letter (Node n)) (node_rests env q [] turn).1.messages

      none-sent : map (letter (Node n)) (node_rests env q [] turn).1.messages ≡ []
      none-sent = ap (map (letter (Node n))) (no-messages w k.nodes k.files x.part st told_ n b env at_ d0 stay stay_is still hears few up)

      una : d0.send.una ≡ b.send.una
      una = una-same w k.nodes k.files x.part st told_ n b env at_ d0 stay stay_is still hears few up

      quiet : IsSilent d0 → segments ≡ []
      quiet silent = silent-segments w k.nodes k.files x.part st told_ n b env at_ d0 stay stay_is still hears few up silent

      never-reset : d0.reset ≡ true → ⊥
      never-reset e = not-reset w k.nodes k.files x.part st told_ n b env at_ d0 stay stay_is still hears few up e

      known : s.flags.ack ≡ true → seq_offset s.ack st.iss ≤ b.send.nxt
      known acks = let a : seq_offset s.ack st.iss ≤ symbols_taken st.client = word.acks acks in let c : symbols_taken st.client ≤ b.send.nxt = talk.sent in omega (arith, a, c)

      -- ---- nothing is said to a refusal, and to an acknowledgement with the last number

      refusal-silent : s.flags.rst ≡ true → segments ≡ []
      refusal-silent rst =
          let r = word.refuses rst (late rst) in
          ⊎_elim (λ (e : d0 ≡ record b { reset = true }). absurd (never-reset (ap (λ (c : ControlBlock). c.reset) e))) (λ (e : d0 ≡ b). quiet (subst IsSilent (sym e) talk.silent)) (refused st b s talk r.0 rst r.1 r.2 r.3)

      current-silent : is_plain s ≡ true → seq_offset s.seq st.client.send.iss ≡ symbols st.client.send → segments ≡ []
      current-silent plain last =
          let p = plain-parts s.flags.syn s.flags.fin s.flags.rst s.flags.ack (length s.payload) plain in
          let fits = current-fits st b s talk word.seq_small plain last in
          let knows = ack-known st b s talk (known p.3) in
          let wnd : d0.send.wnd ≡ b.send.wnd = same-window st b env s talk warm (stale-same w k.nodes k.files x.part st told_ n b env at_ d0 stay stay_is still hears few up) in
          quiet (plain-silent b s talk.silent plain fits knows una wnd).0

      -- ---- the chains of what is said

      word-is : chain t x.c came ≡ word_chain t s
      word-is = chain-is t ∙ ap (word_result t) read

      no-more : segments ≡ [] → Sent segments ≡ []
      no-more none = λ i. map (letter (Node n)) (none i) ++ none-sent i

      shorter : Every (λ a. chain t x.c a < chain t x.c came) (Sent segments)
      shorter = go (s.flags.rst || is_current t s) refl where
        go : (r : Bool) → (s.flags.rst || is_current t s) ≡ r → Every (λ a. chain t x.c a < chain t x.c came) (Sent segments)
        go true e =
            let none : segments ≡ [] = ⊎_elim refusal-silent (λ (c : is_current t s ≡ true). let p = and_parts (is_plain s) (seq_offset s.seq t.isn == t.last) c in current-silent p.0 (eqb-true (seq_offset s.seq t.isn) t.last p.1)) (or_cases s.flags.rst (is_current t s) e) in
            subst (λ (ls : List Letter). Every (λ a. chain t x.c a < chain t x.c came) ls) (sym (no-more none)) tt
        go false e =
            let three : chain t x.c came ≡ 3 = word-is ∙ cond-false (s.flags.rst || is_current t s) 0 3 e in
            all-short t x.c n (chain t x.c came) (omega (arith, three)) segments (node_rests env q [] turn).1.messages

      -- ---- what leads further

      news : IsNews t (ends_of st.client b) s → ⊥
      news h =
          let c = and_parts (is_plain s) (seq_offset s.seq t.isn == t.last) h.current in
          let p = plain-parts s.flags.syn s.flags.fin s.flags.rst s.flags.ack (length s.payload) c.0 in
          let fits = current-fits st b s talk word.seq_small c.0 (eqb-true (seq_offset s.seq t.isn) t.last c.1) in
          let more : b.send.una < seq_offset s.ack st.iss = h.more in
          let up : nat_lt b.send.una (seq_offset s.ack b.send.iss) ≡ true = ap (λ i. nat_lt b.send.una (seq_offset s.ack i)) talk.iss ∙ within b.send.una (seq_offset s.ack st.iss) more in
          let is : d0.send.una ≡ seq_offset s.ack b.send.iss = plain-news b s c.0 fits (ack-known st b s talk (known p.3)) up in
          let first : seq_offset s.ack b.send.iss ≡ seq_offset s.ack st.iss = ap (seq_offset s.ack) talk.iss in
          let u = una in
          omega (arith, is, first, u, more)
        where
          within : (a c : ℕ) → a < c → nat_lt a c ≡ true
          within a c e = grind (arith, nat_tests, e)

      crosses : (d : ℕ) → st.client.phase ≡ phase.Open → Crosses t s → b.send.una ≡ symbols b.send → 2 ≤ suc d → Any (λ a. Near k.files t x.c d a) (Sent segments)
      crosses d open_ h clear two =
          let acked : seq_offset s.ack st.iss ≤ symbols_taken st.client = word.acks h.acks in
          let inside : seq_offset s.seq st.client.send.iss + seg_len s ≤ symbols st.client.send = word.within h.no_rst (let a : seq_offset s.seq st.client.send.iss ≤ st.client.send.una = h.from in let c : st.client.send.una < seq_offset s.seq st.client.send.iss + seg_len s = h.to in omega (arith, a, c)) in
          let e = turn.service.block in
          let same = alike w k.nodes k.files x.part st told_ n b env at_ d0 stay stay_is still hears few up in
          let owes : IsOwing b st.client.send.una (on_segment b s) = crosses-owes st b s segment talk acked word.seq_small inside t refl refl h clear in
          let all : symbols e.send ≤ e.send.nxt = all-sent st b s segment talk acked word.seq_small inside e same clear in
          let reset : e.reset ≡ false = same.reset ∙ owes.reset ∙ talk.silent.open_ in
          let owed : e.owed ≡ true = same.owed ∙ owes.owed in
          let one : segments ≡ to_client env.serve.c (told e) (ack_ready e) ∷ [] = segments-are w k.nodes k.files x.part st told_ n b env at_ d0 stay stay_is still hears few up ∙ one-said env.serve.c e reset owed all in
          let said = answer st b s segment talk acked word.seq_small inside e same in
          let is : decoded (to_client env.serve.c (told e) (ack_ready e)).1 x.c ToClient ≡ Ok said =
          ap (λ c. decoded (spelled c ToClient said) x.c ToClient) of.number ∙ again x.c ToClient said (answer-fits st b s segment talk acked word.seq_small inside e same) in
          let fresh = answer-news st b s segment talk acked word.seq_small inside e same t refl refl refl clear owes in
          let reply : NearReply t 3 d (ends_of st.client b) said st.client.phase = subst (λ (ph : Phase). NearReply t 3 d (ends_of st.client b) said ph) (sym open_) (inr (fresh, clear, omega (arith, two))) in
          let near : Near k.files t x.c d (letter (Node n) (to_client env.serve.c (told e) (ack_ready e))) = subst (OfSegment (λ (s : Said). NearSegment t d s t.post)) (sym is) reply in
          subst (λ (ss : List (Place × List ℕ)). Any (λ a. Near k.files t x.c d a) (Sent ss)) (sym one) (inl near)

      leads : (d : ℕ) → NearHeld t (suc d) (ends_of st.client b) s st.client.phase → Any (λ a. Near k.files t x.c d a) (Sent segments) ⊎ IsFetch came
      leads d near = go st.client.phase refl near where
        go : (ph : Phase) → st.client.phase ≡ ph → NearHeld t (suc d) (ends_of st.client b) s ph → Any (λ a. Near k.files t x.c d a) (Sent segments) ⊎ IsFetch came
        go phase.Open is (inl h) = absurd (news h.0)
        go phase.Open is (inr h) = inl (crosses d is h.0 h.1 h.2)
        go phase.Aborted is h =
            let r = word.refuses h.0 (late h.0) in
            absurd (never-reset (ap (λ (c : ControlBlock). c.reset) (at-awaited st b s talk r.0 h.0 (h.1 ∙ ap (λ (ph : Phase). number_awaited b ph) is))))
        go phase.Reset is h = absurd h

  -- ---- all of it

  is-warm : (st : Station) (s : Said) → decoded segment x.c ToCluster ≡ Ok s → x.part.station ≡ Some st → st.client.c ≡ x.c → IsWarm x came → IsWarmWord st.client s st.client.phase
  is-warm st s read is c_is warm =
      let a : IsWarmMessage st.client (decoded_message bytes) = subst (λ (o : Option Station). IsWarmBy o came) is warm in
      let c : IsWarmBody st.client (body.Forward segment) = subst (IsWarmMessage st.client) spells a in
      subst (IsWarmSegment st.client) (ap (λ m. decoded segment m ToCluster) c_is ∙ read) c

  rests-owes : (s : Said) → decoded segment x.c ToCluster ≡ Ok s → (b : ControlBlock) (stay : Stay) → IsHereWith env.epoch q b stay
      → Forwards (with_work env q [] (goes_on env (work_of (on_segment b s).1 stay)))
  rests-owes s read b stay is = does-owes k w x n Front bytes was (λ given. given.opened n bytes was) (node_rests env q [] (goes_on env (work_of (on_segment b s).1 stay))) (λ given after warm late st st_is c_is up same.
      let row = here-row env.epoch q b stay is in
      let at = is-here k w x given n env.epoch b row in
      let turn = goes_on env (work_of (on_segment b s).1 stay) in
      let spells_env : SpellsMessage x.c env.epoch (body.Forward segment) bytes = subst (λ (e : ℕ). SpellsMessage x.c e (body.Forward segment) bytes) (sym of.epoch_is) spells in
      let talk = given.talks st n env.epoch b st_is row in
      let word = given.words st n env.epoch b segment bytes s st_is row spells_env was read in
      let late_word : s.flags.rst ≡ true → s.flags.ack ≡ false = late st st_is (record { c = x.c; epoch = record { 0 = epoch }; body = body.Forward segment }) spells s read in
      let stays = still k.files x.part st at.0 n b env at.1 q [] turn same in
      let warm_word : IsWarmWord st.client s st.client.phase = is-warm st s read st_is c_is warm in
      let few : read_of turn ≤ w.requests = after.few at.0 n env.epoch (left_here k.files x.part st at.0 n b env at.1 q [] turn) (staying_of (kept_after env q turn (ending.Here (left_here k.files x.part st at.0 n b env at.1 q [] turn) turn.service.count)))
      (still-seat k.files x.part st at.0 n b env at.1 q [] turn stays) in
      let t = seated k.files x.part st (Here at.0 n env.epoch b (staying_of q)) in
      let spot : spot_of k.files x.part st ≡ t = seated-is k.files x.part st ∙ ap (seated k.files x.part st) (here-seat x.part at.0 n env.epoch b at.1) in
      let R : Spot → Type 0 = λ u. Replies k.files u x.c came (map (letter (Node n)) (node_rests env q [] turn).1.segments ++ map (letter (Node n)) (node_rests env q [] turn).1.messages) in
      subst R (sym spot) (record {
        shorter = shorter st s read at.0 b at.1 stay is.stays talk word late_word warm_word stays few up;
        leads = λ d near. leads st s read at.0 b at.1 stay is.stays talk word late_word warm_word stays few up d
            (subst (λ (r : Result Said SegFault). NearForward t (suc d) n epoch r t.post) read (near-is t (suc d) near)).2;
      }))

  heard-owes : (s : Said) → decoded segment x.c ToCluster ≡ Ok s → (b : ControlBlock) (stay : Stay) → IsHereWith env.epoch q b stay
      → Forwards (node_turns env q [] (goes_on env (work_of (on_segment b s).1 stay)))
  heard-owes s read b stay is = turns-owes k w x n Front bytes was env q [] (goes_on env (work_of (on_segment b s).1 stay)) b (here-row env.epoch q b stay is)
      (rests-owes s read b stay is)

  pub forwarded-owes : Forwards (node_forwarded env q (decoded segment x.c ToCluster))
  forwarded-owes = by-read (decoded segment x.c ToCluster) refl where
    by-read : (r : Result Said SegFault) → decoded segment x.c ToCluster ≡ r → Forwards (node_heard_by env q r (here env.epoch q))
    by-read (Err fault) read = drops-owes k w x n Front bytes was (λ given st st_is d near.
        let t = spot_of k.files x.part st in
        far t (suc d) t.post fault (subst (λ (r : Result Said SegFault). NearForward t (suc d) n epoch r t.post) read (near-is t (suc d) near)))
      where
        far : (t : Spot) (d : ℕ) (post : Post) (fault : SegFault) → NearForward t d n epoch (Err fault) post → ⊥
        far t d post fault h = h
    by-read (Ok s) read = where-here env.epoch q (λ o. here env.epoch q ≡ o → Forwards (node_heard_by env q (Ok s) o))
        (λ is. drops-owes k w x n Front bytes was (λ given st st_is d near.
        let h = at-node st (suc d) s read near in
        let stay = given.stays n epoch h.1 h.2.there in
        let some : here env.epoch q ≡ Some (h.1, stay.0) = ap (λ (e : ℕ). here e q) of.epoch_is ∙ here-both q epoch h.1 stay.0 h.2.there stay.1 in
        let bad : ◌≡◌ {A = Option (ControlBlock × Stay)} None (Some (h.1, stay.0)) = sym is ∙ some in cc))
        (λ b stay at is. heard-owes s read b stay at) refl
