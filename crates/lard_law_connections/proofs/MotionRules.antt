-- Each rule keeps what is known of a connection's way, and moves it as it must be moved.
use Rattle.std.proofs.Common.{◌≡◌, ◌≢◌, ◌⊎◌, ◌||◌, ℕ, Bool, true, false, cond, List, [], ◌∷◌, ◌++◌, map, Option, Some, None, Result, Ok, Err, refl, sym, ap, ◌∙◌, subst, nat_eq, append-nil, ◌==◌, ◌≤◌, arith, eq-eqb, eqb-true, ⊎_elim}
use Rattle.std.proofs.lemmas.Bool.{both_ways}
use Rattle.std.proofs.lemmas.List.Folds.{list_any-append}
use Rattle.lard_base.specs.declared.event.Event.TheVariants as event
use Rattle.lard_law_view.specs.Prelude.{Acknowledged, AskedBy, BackRow, Client, ClientBlock, ClientRules, Completed, Conn, Content, EndedBy, EndpointParts, Fires, Forwarded, Front, FrontAdmits, FrontConn, FrontEnv, FrontFires, FrontGets, FrontHears, FrontRow, IsForFront, IsForNode, IsFrontEnv, IsNobody, IsNodeEnv, IsUnheard, Kind, Leaves, MayRestOn, Message, Move, MsgFault, Node, NodeEnv, NodeGets, Offered, Place, Rec, ReturnedBy, Row, Rules, Said as Segment, Seen, SegFault, Setting, SpellsMessage, Station, ToCluster, Turn, Was, client_begins, client_does, client_injects, client_opens, client_rule, content_said, decoded, decoded_message, event_seen, front_does, front_rule, inject_seen, is_no_node, kind_of, letter, listed, node_does, node_read, node_rule, nothing_said, packet_seen, reads_first, rows_of, seen_in, stands, tale_at}
use Rattle.lard_law_view.proofs.EachClient.{client_seen, each-client, of-client}
use Rattle.lard_law_view.proofs.EachFront.{FrontComes, admission, each-front, of-front}
use Rattle.lard_law_connections.specs.Motion.{EachIsTold, above}
use Rattle.lard_law_connections.specs.MotionStory.{Story, decoded_bytes, epoch_if, epoch_offered, from_node, highest, is_among, is_back, is_offer, is_refused, is_syn, node_took, of_row, offer_on, picked, refused_in, segment_on, story, syn_on, told_of}
use Rattle.lard_law_connections.proofs.MotionElsewhere.{Helps, IsBare, IsKnown, IsNoLater, IsNotOfClient, Moves, else-moves, machine-letters, quiet-moves}
use Rattle.lard_law_connections.proofs.MotionFronts as fronts
use Rattle.lard_law_connections.proofs.MotionComings.{Heads}
use Rattle.lard_law_connections.proofs.MotionNodes.{IsFirst, NodesGo, NodesKnown, NodesMove, max-none, nodes-go, seen-gave, other-at, quiet-at, seen-offers, seen-took}
use Rattle.lard_law_connections.proofs.MotionNodeTurns as turns
use Rattle.lard_law_view.proofs.NodeHeads.{of-heads}
use Rattle.lard_law_connections.proofs.MotionPicking.{IsApart, or-false, pick, picked-append}
use Rattle.lard_law_connections.specs.Places.{HasEnded, IsComing, IsDecided, IsOffered, IsOver, IsPast, IsRefusalTold, IsThere, Offers, Owning, Sits, StageSits, owning}
use Rattle.lard_law_connections.proofs.PlacesFrontMessages.{came-says, no-give, offer-says}
use Rattle.lard_law_connections.proofs.PlacesFrontRules.{has-each}
use Rattle.lard_law_connections.proofs.PlacesNodeRules.{by-node}
use Rattle.lard_law_connections.proofs.PlacesTurns.{IsPlaced, Owes, no-refusal}
use Rattle.lard_law_view.proofs.EachNode.{Answers, Aside, Brings, NodeComes, Queues, aside_said, aside_seen, each-node, job_notes, node_goes, told_first}
use Rattle.lard_law_view.proofs.Fine.{IsItsOwn}
use Rattle.lard_rules.specs.Front as front
use Rattle.lard_rules.specs.Front.{parts_kept}
use Rattle.lard_handoff_front.specs.declared.row.FrontConn.TheVariants as stage
use Rattle.lard_history.proofs.Each.{Each, Each-append}
use Rattle.lard_history.proofs.Seeing.{other_number, same_number}
use Rattle.lard_journal.specs.declared.rec.Rec.TheVariants as rec
use Rattle.lard_message.specs.declared.kind.Kind.TheVariants as kind
use Rattle.lard_message.specs.declared.message.Body.TheVariants as body
use Rattle.lard_rules.proofs.NodeCases.{IsInItsEpoch, IsOfItsEpoch}
use Rattle.lard_rules.specs.Node as node

-- what is known of a connection's way
pub record Way (x : Conn) : Type 0 where
  pub front : IsKnown x
  pub nodes : NodesKnown x

-- the move is as it must be, and what is known stays known
abbrev pub Goes : Setting → Conn → Move → Type 0
Goes k x v = MayRestOn IsPlaced x → Way x → Helps x v → Moves x v × NodesGo k.nodes x v

-- ---- what is seen first

-- nothing of the way comes, and no Offer
pub record IsClear (x : Conn) (heads : List Seen) : Type 0 where
  pub apart : Each (IsApart x.c) heads
  pub bare : Each IsBare heads
  pub first : Each IsFirst heads
  pub offers : (n : ℕ) → picked (epoch_offered n) heads ≡ []

-- a packet that comes to a client
client-clear : (x : Conn) (from : Place) (d : ℕ) (bytes : List ℕ) → IsClear x (packet_seen from (Client d) bytes)
client-clear x Front d bytes = record { apart = ((refl, refl, refl), tt); bare = (tt, tt); first = (tt, tt); offers = λ n. refl }
client-clear x (Node m) d bytes = record { apart = ((refl, refl, refl), tt); bare = (tt, tt); first = (tt, tt); offers = λ n. refl }
client-clear x (Client e) d bytes = record { apart = ((refl, refl, refl), tt); bare = (tt, tt); first = (tt, tt); offers = λ n. refl }

-- ---- a client

module _ (k : Setting) (x : Conn) where
  client-goes : (heads : List Seen) (s : Station) (given : ClientBlock × Turn) → IsClear x heads → Goes k x (client_does x s heads given)
  client-goes heads s given clear may way help =
      let v : Move = client_does x s heads given in (
        else-moves x v help way.front tt clear.apart clear.bare refl (λ none. let no : Some _ ≡ None = none in absurd cc),
        nodes-go k.nodes x v (λ n. other-at k.nodes n x v help.own way.nodes clear.first (clear.offers n) tt refl),
      )

  event-clear : (e : _) → IsClear x (event_seen e)
  event-clear e = record { apart = (tt, tt); bare = ((tt, tt), tt); first = (tt, tt); offers = λ n. refl }

  begins-goes : (isn iss wnd mss : ℕ) → Goes k x (client_begins x isn iss wnd mss)
  begins-goes isn iss wnd mss = client-goes (client_begins x isn iss wnd mss).heads (record { client = (client_opens x.c isn wnd mss).0; iss = iss }) (client_opens x.c isn wnd mss)
      (record { apart = (tt, (tt, tt)); bare = ((tt, tt), ((tt, tt), tt)); first = (tt, (tt, tt)); offers = λ n. refl })

  injects-goes : (s : Station) (bytes : List ℕ) → Goes k x (client_does x s (inject_seen x.c bytes) (client_injects s.client bytes))
  injects-goes s bytes = client-goes (inject_seen x.c bytes) s (client_injects s.client bytes) (record { apart = (tt, (tt, tt)); bare = ((tt, tt), ((tt, tt), tt)); first = (tt, (tt, tt)); offers = λ n. refl })

-- ---- the front end

-- nothing came but what is known
module _ (x : Conn) where
  abbrev t : Story
  t = story x.c x.seen

  same-story : t ≡ record t { syn = t.syn || false; back = t.back ++ [] }
  same-story = λ i. record t { syn = sym (or-false t.syn) i; back = sym (append-nil t.back) i }

  timer-heads : Heads x (event_seen (event.Timer Front x.c)) false [] []
  timer-heads = record { bare = ((tt, tt), tt); syn_is = refl; comes_are = refl; segments_are = refl; tells = same-story }

  no-heads : Heads x [] false [] []
  no-heads = record { bare = tt; syn_is = refl; comes_are = refl; segments_are = refl; tells = same-story }

  segment-heads : (bytes : List ℕ) (r : Result Segment SegFault) → decoded bytes x.c ToCluster ≡ r → Heads x (packet_seen (Client x.c) Front bytes) (is_syn r) [] (listed (decoded_bytes bytes r))
  segment-heads bytes r e = record {
    bare = (tt, tt);
    syn_is = or-false (is_syn (decoded bytes x.c ToCluster)) ∙ ap is_syn e;
    comes_are = refl;
    segments_are = append-nil (listed (decoded_bytes bytes (decoded bytes x.c ToCluster))) ∙ ap (λ q. listed (decoded_bytes bytes q)) e;
    tells = λ i. record t { syn = t.syn || is_syn (e i); back = t.back ++ [] };
  }

  message-heads : (n : ℕ) (bytes : List ℕ) (o : Option ℕ) → epoch_if is_back (decoded_message bytes) ≡ o → Heads x (packet_seen (Node n) Front bytes) false (listed o) []
  message-heads n bytes o e = record {
    bare = (tt, tt);
    syn_is = refl;
    comes_are = append-nil (listed (epoch_if is_back (decoded_message bytes))) ∙ ap listed e;
    segments_are = refl;
    tells = λ i. record t { syn = t.syn || false; back = t.back ++ listed (e i) };
  }

  calm-heads : (env : FrontEnv) (heads : List Seen) (g : FrontGets) → fronts.IsCalm g → FrontComes x env heads g → Heads x heads false [] []
  calm-heads env heads (FrontHears bytes given) calm comes = absurd calm
  calm-heads env heads FrontFires calm comes = subst (λ (hs : List Seen). Heads x hs false [] []) (sym comes.seen) timer-heads
  calm-heads env heads (AskedBy n epoch ask) calm comes =
      subst (λ (hs : List Seen). Heads x hs false [] []) (sym comes.told.seen) (message-heads n comes.told.bytes None (ap (epoch_if is_back) comes.told.spells))
  calm-heads env heads (EndedBy n epoch last) calm comes = absurd calm
  calm-heads env heads (ReturnedBy n epoch given) calm comes = absurd calm
  calm-heads env heads (FrontAdmits choice given) calm comes = subst (λ (hs : List Seen). Heads x hs false [] []) (sym comes.seen) no-heads
  calm-heads env heads g calm comes =
      subst (λ (hs : List Seen). Heads x hs false [] []) (sym comes.seen) (message-heads _ comes.bytes None (ap (epoch_if is_back) comes.spells))

  -- each epoch in which it came back is one that the front end reached
  still-reached : (known : IsKnown x) (e : ℕ) → is_among e (t.back ++ []) ≡ true → IsNoLater e x.part.front.row
  still-reached known e among = known.back e (ap (is_among e) (sym (append-nil t.back)) ∙ among)

  over-decided : (e : ℕ) (o : Option BackRow) → IsOver e o → IsDecided e o
  over-decided e None h = h
  over-decided e (Some row) h = h.0

  also-reached : (known : IsKnown x) (epoch : ℕ) → IsNoLater epoch x.part.front.row → (e : ℕ) → is_among e (t.back ++ epoch ∷ []) ≡ true
      → IsNoLater e x.part.front.row
  also-reached known epoch now e among = go (is_among e t.back) refl (epoch == e) refl
      (sym (list_any-append (λ d. d == e) t.back (epoch ∷ [])) ∙ among) where
        go : (a : Bool) → is_among e t.back ≡ a → (b : Bool) → (epoch == e) ≡ b → a || (b || false) ≡ true → IsNoLater e x.part.front.row
        go true f b g h = known.back e f
        go false f true g h = subst (λ (d : ℕ). IsNoLater d x.part.front.row) (eqb-true epoch e g) now
        go false f false g h = let no : false ≡ true = h in absurd cc

  -- a node is at most in the epoch of the front end
  module _ (placed : IsPlaced x) (n epoch : ℕ) where
    abbrev own : Owning
    own = owning (tale_at x)

    past-reached : (d : ℕ) (o : Option BackRow) → IsPast d o → IsDecided epoch o → epoch ≤ d
    past-reached d None past h = absurd h
    past-reached d (Some row) past h = omega (arith, past.0, h)

    there-reached : (m d : ℕ) (o : Option BackRow) → IsThere m d own o → IsDecided epoch o → epoch ≤ d
    there-reached m d None there h = absurd h
    there-reached m d (Some row) there h = let same = there.0 in omega (arith, same, h)

    stage-reached : (e : ℕ) (st : FrontConn) → StageSits e own x.part.nodes st → IsDecided epoch (x.part.nodes n).row → epoch ≤ e
    stage-reached e (stage.Held b) s h = past-reached e (x.part.nodes n).row (s.1.1 n) h
    stage-reached e (stage.Waiting b) s h = past-reached e (x.part.nodes n).row (s.1.1 n) h
    stage-reached e stage.Lent s h = absurd s
    stage-reached e (stage.Offering m d) s h = by-node m n (epoch ≤ e)
        (λ same. let at : IsDecided epoch (x.part.nodes m).row = subst (λ (j : ℕ). IsDecided epoch (x.part.nodes j).row) same h in ⊎_elim
        (λ (coming : IsComing e own (x.part.nodes m).row). past-reached e (x.part.nodes m).row coming.2 at)
        (λ (there : IsThere m e own (x.part.nodes m).row). there-reached m e (x.part.nodes m).row there at) s.3)
        (λ other. past-reached e (x.part.nodes n).row (s.2 n other) h)
    stage-reached e (stage.Moved m d) s h = by-node m n (epoch ≤ e)
        (λ same. there-reached m e (x.part.nodes m).row s.3 (subst (λ (j : ℕ). IsDecided epoch (x.part.nodes j).row) same h))
        (λ other. past-reached e (x.part.nodes n).row (s.2 n other) h)
    stage-reached e (stage.Closed last) s h = past-reached e (x.part.nodes n).row (s.1.1 n) h

    row-reached : (o : Option FrontRow) → Sits own x.part.nodes o → IsDecided epoch (x.part.nodes n).row → IsNoLater epoch o
    row-reached None h decided = let le : epoch ≤ 0 = past-reached 0 (x.part.nodes n).row (h.1 n) decided in absurd (none-at (x.part.nodes n).row (h.1 n) decided) where
      none-at : (o : Option BackRow) → IsPast 0 o → IsDecided epoch o → ⊥
      none-at None past h = h
      none-at (Some row) past h = omega (arith, past.0, h)
    row-reached (Some row) h decided = stage-reached row.epoch.0 row.stage h.0 decided

    -- so where one took it in this epoch, or refused it, the front end reached that
    pub decided-reached : IsDecided epoch (x.part.nodes n).row → IsNoLater epoch x.part.front.row
    decided-reached decided = row-reached x.part.front.row placed.sits decided

    told-row : (o : Option FrontRow) → Sits own x.part.nodes o → HasEnded epoch o ⊎ IsOffered n epoch o → IsNoLater epoch o
    told-row None h told = absurd (⊎_elim (λ (e : ⊥). e) (λ (e : ⊥). e) told)
    told-row (Some row) h told = ⊎_elim (λ (ended : HasEnded epoch (Some row)). omega (arith, ended)) (λ (offered : IsOffered n epoch (Some row)). go row.stage h.0 offered) told where
      go : (st : FrontConn) → StageSits row.epoch.0 own x.part.nodes st → Offers n epoch st → epoch ≤ row.epoch.0
      go (stage.Offering m d) s o = let now = s.1 in let same = o.1 in omega (arith, now, same)
      go _ s o = absurd o

    pub told-reached : IsRefusalTold x.part n epoch → IsNoLater epoch x.part.front.row
    told-reached told = told-row x.part.front.row placed.sits told.1

  -- INTERIM: the Offer that is kept is read, while it is offered
  offer-read : IsPlaced x → (n epoch : ℕ) → IsRefusalTold x.part n epoch → (parts : EndpointParts) × (parts_kept x.part.front.kept ≡ Some parts)
  offer-read placed n epoch told = absurd (no-refusal x placed n epoch told.0)

  refused-heads : (n epoch : ℕ) (bytes : List ℕ) → SpellsMessage x.c epoch body.Refused bytes
      → is_among epoch (picked refused_in (packet_seen (Node n) Front bytes)) ≡ true
  refused-heads n epoch bytes spells =
      ap (λ r. is_among epoch (listed (epoch_if is_refused r) ++ [])) spells ∙ ap (λ b. b || false) (eq-eqb epoch epoch refl)

module _ (k : Setting) (x : Conn) where
  -- the nodes are as they were
  front-nodes : (heads : List Seen) → Each IsFirst heads → ((n : ℕ) → picked (epoch_offered n) heads ≡ []) → NodesKnown x → (d : front.FrontDeed) → IsItsOwn x (front_does x heads d) → NodesGo k.nodes x (front_does x heads d)
  front-nodes heads first offers known front.Drops own = nodes-go k.nodes x (front_does x heads front.Drops) (λ n. other-at k.nodes n x (front_does x heads front.Drops) own known first (offers n) tt refl)
  front-nodes heads first offers known (front.Says turn) own = nodes-go k.nodes x (front_does x heads (front.Says turn)) (λ n. other-at k.nodes n x (front_does x heads (front.Says turn)) own known first (offers n) tt refl)
  front-nodes heads first offers known (front.Does did) own = nodes-go k.nodes x (front_does x heads (front.Does did)) (λ n. other-at k.nodes n x (front_does x heads (front.Does did)) own known first (offers n) tt refl)

  front-moves : (env : FrontEnv) → IsFrontEnv k x.c env → (heads : List Seen) (g : FrontGets) → FrontComes x env heads g → MayRestOn IsPlaced x → Way x
      → Helps x (front_does x heads (front_rule env x.part.front g)) → Moves x (front_does x heads (front_rule env x.part.front g))
  front-moves env is heads (FrontHears bytes (Err fault)) comes may way = fronts.nothing-drops k x may.given way.front heads false [] []
      (subst (λ (hs : List Seen). Heads x hs false [] []) (sym comes.seen) (segment-heads x bytes (Err fault) (sym comes.read)))
      env is (still-reached x way.front) refl refl refl
  front-moves env is heads (FrontHears bytes (Ok s)) comes may way = fronts.hears-move k x may.given way.front heads (is_syn (Ok s)) [] (bytes ∷ [])
      (subst (λ (hs : List Seen). Heads x hs (is_syn (Ok s)) [] (bytes ∷ [])) (sym comes.seen) (segment-heads x bytes (Ok s) (sym comes.read)))
      env is (still-reached x way.front)
      refl bytes refl s refl x.part.front.row refl
  front-moves env is heads (EndedBy n epoch last) comes may way =
      let e = comes.told in
      let decided : IsDecided epoch (x.part.nodes n).row = over-decided x epoch (x.part.nodes n).row
      (came-says x (Node n) Front epoch (body.Ended last.reason last.snd.0 last.rcv.0 comes.count) e.bytes may.given.letters e.was e.spells) in
      fronts.ended-move k x may.given way.front heads false (epoch ∷ []) []
      (subst (λ (hs : List Seen). Heads x hs false (epoch ∷ []) []) (sym e.seen) (message-heads x n e.bytes (Some epoch) (ap (epoch_if is_back) e.spells))) env is
      (also-reached x way.front epoch (decided-reached x may.given n epoch decided))
      n epoch refl refl refl decided last
  front-moves env is heads (ReturnedBy n epoch None) comes may way =
      let told : IsRefusalTold x.part n epoch = came-says x (Node n) Front epoch body.Refused comes.bytes may.given.letters comes.was comes.spells in
      let read = offer-read x may.given n epoch told in
      fronts.refused-move k x may.given way.front heads false (epoch ∷ []) []
      (subst (λ (hs : List Seen). Heads x hs false (epoch ∷ []) []) (sym comes.seen) (message-heads x n comes.bytes (Some epoch) (ap (epoch_if is_back) comes.spells))) env is
      (also-reached x way.front epoch (told-reached x may.given n epoch told))
      n epoch refl refl refl (record {
        told = told;
        refused = subst (λ (hs : List Seen). is_among epoch (picked refused_in hs) ≡ true) (sym comes.seen) (refused-heads x n epoch comes.bytes comes.spells);
        parts = read.0;
        read = read.1;
      })
  front-moves env is heads (ReturnedBy n epoch (Some parts)) comes may way = absurd (no-give x may.given n epoch parts comes.bytes comes.was comes.spells)
  front-moves env is heads g comes may way = fronts.rule-move k x may.given way.front heads false [] [] (calm-heads x env heads g tt comes) env is
      (still-reached x way.front) refl refl refl g tt (admission x env heads g comes)

  no-offers-here : (from : Place) (bytes : List ℕ) (n : ℕ) → picked (epoch_offered n) (packet_seen from Front bytes) ≡ []
  no-offers-here Front bytes n = refl
  no-offers-here (Node m) bytes n = refl
  no-offers-here (Client d) bytes n = refl

  front-goes : (env : FrontEnv) → IsFrontEnv k x.c env → (heads : List Seen) (g : FrontGets) → FrontComes x env heads g
      → Goes k x (front_does x heads (front_rule env x.part.front g))
  front-goes env is heads g comes may way help =
      let seen = of-front x (λ (hs : List Seen). Each IsFirst hs × ((n : ℕ) → picked (epoch_offered n) hs ≡ []))
      (λ from bytes. ((tt, tt), no-offers-here from bytes)) (tt, λ n. refl)
      ((tt, tt), λ n. refl) env heads g comes in
      (front-moves env is heads g comes may way help, front-nodes heads seen.0 seen.1 way.nodes (front_rule env x.part.front g) help.own)

-- ---- a node

module _ (k : Setting) (x : Conn) (n : ℕ) where
  -- packets of a node are no client's
  node-fresh : (known : IsKnown x) (ss ms : List (Place × List ℕ)) → x.part.station ≡ None → Each IsNotOfClient (x.letters ++ (map (letter (Node n)) ss ++ map (letter (Node n)) ms))
  node-fresh known ss ms none = Each-append IsNotOfClient x.letters (map (letter (Node n)) ss ++ map (letter (Node n)) ms) (known.fresh none)
      (Each-append IsNotOfClient (map (letter (Node n)) ss) (map (letter (Node n)) ms) (machine-letters (Node n) ss tt) (machine-letters (Node n) ms tt))

  -- the front end is as it was, also behind the record of a job
  node-front : (rs : List Rec) (heads : List Seen) → Each (IsApart x.c) heads → Each IsBare heads → IsKnown x → (d : node.NodeDeed)
      → Helps x (told_first rs (node_does x n heads d)) → Moves x (told_first rs (node_does x n heads d))
  node-front rs heads apart bare known node.Drops help = else-moves x (told_first rs (node_does x n heads node.Drops)) help known tt apart bare refl
      (node-fresh known [] [])
  node-front rs heads apart bare known (node.Says ms) help = else-moves x (told_first rs (node_does x n heads (node.Says ms))) help known tt apart bare refl
      (node-fresh known [] ms)
  node-front rs heads apart bare known (node.Does y) help = else-moves x (told_first rs (node_does x n heads (node.Does y))) help known tt apart bare refl
      (node-fresh known y.1.segments y.1.messages)

  -- no other node hears what comes to this one
  others-unheard : (from : Place) (bytes : List ℕ) (m : ℕ) → m ≢ n → picked (epoch_offered m) (packet_seen from (Node n) bytes) ≡ []
  others-unheard Front bytes m other = append-nil (listed (cond (nat_eq n m) (epoch_if is_offer (decoded_message bytes)) None)) ∙ ap (λ b. listed (cond b (epoch_if is_offer (decoded_message bytes)) None)) (other_number n m (λ e. other (sym e)))
  others-unheard (Node j) bytes m other = refl
  others-unheard (Client d) bytes m other = refl

  -- what comes to it from the front end
  this-hears : (bytes : List ℕ) (o : Option ℕ) → epoch_if is_offer (decoded_message bytes) ≡ o → picked (epoch_offered n) (packet_seen Front (Node n) bytes) ≡ listed o
  this-hears bytes o e =
      append-nil (listed (cond (nat_eq n n) (epoch_if is_offer (decoded_message bytes)) None)) ∙ ap (λ b. listed (cond b (epoch_if is_offer (decoded_message bytes)) None)) (same_number n) ∙ ap listed e

  -- what comes to a node is nothing of the way
  packet-apart : (from : Place) (bytes : List ℕ) → Each (IsApart x.c) (packet_seen from (Node n) bytes)
  packet-apart Front bytes = ((refl, refl, refl), tt)
  packet-apart (Node from) bytes = ((refl, refl, refl), tt)
  packet-apart (Client d) bytes = ((refl, refl, refl), tt)

  -- ---- a job of its own

  -- the move without the record of the job
  behind-read : (r : ℕ) (path : List ℕ) (v : Move) → Helps x (reads_first (rec.Read n n x.c r path) v) → Helps x v
  behind-read r path v help = record {
    new = help.new;
    number = help.number;
    sound = help.sound;
    placed = help.placed;
    owes = let o : Owes x (reads_first (rec.Read n n x.c r path) v) = help.owes in record { heads = o.heads; same = o.same; rows = o.rows.1; sits = o.sits; grows = o.grows; letters = o.letters };
    own = record { notes = help.own.notes.1; segments = help.own.segments; gave = help.own.gave; messages = help.own.messages };
  }

  read-nodes : (r : ℕ) (path : List ℕ) (v : Move) → v.heads ≡ [] → NodesGo k.nodes x v → NodesGo k.nodes x (reads_first (rec.Read n n x.c r path) v)
  read-nodes r path v none h =
      let first : Seen = Row (rec.Read n n x.c r path) in
      let u : Move = reads_first (rec.Read n n x.c r path) v in
      let is : seen_in x u ≡ first ∷ seen_in x v = ap (λ hs. hs ++ first ∷ map Row (rows_of x v)) none ∙ ap (λ hs. first ∷ (hs ++ map Row (rows_of x v))) (sym none) in (
        subst (λ (ss : List Seen). NodesMove k.nodes x.seen ss) (sym is) (record { takes = h.0.takes; ends = h.0.ends; ups = h.0.ups }),
        record {
          highest_is = λ m.
              ap highest (ap (λ ss. picked (of_row (node_took m)) (x.seen ++ ss)) is ∙ picked-append (of_row (node_took m)) x.seen (first ∷ seen_in x v) ∙ sym (picked-append (of_row (node_took m)) x.seen (seen_in x v)))
              ∙ h.1.highest_is m;
          late = h.1.late;
        },
      )

  -- ---- whatever comes to it

  module _ (epoch : ℕ) (env : NodeEnv) (is : IsNodeEnv k x.c n epoch env) (heads : List Seen) where
    -- no Offer is picked of anything else
    no-offers : (g : NodeGets) → NodeComes x n epoch heads g → turns.IsNoOffer g → picked (epoch_offered n) heads ≡ []
    no-offers (Offered parts) comes other = absurd other
    no-offers (Forwarded given) comes other = ap (picked (epoch_offered n)) comes.came.seen
        ∙ this-hears comes.came.bytes None (ap (epoch_if is_offer) comes.came.spells)
    no-offers (Content from r) comes other = ap (picked (epoch_offered n)) comes.came.seen
    no-offers (Completed r path) comes other = ap (picked (epoch_offered n)) comes
    no-offers (Acknowledged false) comes other = ap (picked (epoch_offered n)) comes.seen ∙ this-hears comes.bytes None (ap (epoch_if is_offer) comes.spells)
    no-offers (Acknowledged true) comes other = ap (picked (epoch_offered n)) comes.seen ∙ this-hears comes.bytes None (ap (epoch_if is_offer) comes.spells)
    no-offers Fires comes other = ap (picked (epoch_offered n)) comes.seen
    no-offers Leaves comes other = ap (picked (epoch_offered n)) comes.0
    no-offers g comes other = ap (picked (epoch_offered n)) comes.seen ∙ this-hears comes.bytes None (ap (epoch_if is_offer) comes.spells)

    heads-at : (d : node.NodeDeed) → (node_does x n heads d).heads ≡ heads
    heads-at node.Drops = refl
    heads-at (node.Says ms) = refl
    heads-at (node.Does y) = refl

    module _ (may : MayRestOn IsPlaced x) (way : Way x) (first : Each IsFirst heads) (others : (m : ℕ) → m ≢ n → picked (epoch_offered m) heads ≡ []) where
      goes-nodes : (g : NodeGets) → IsOfItsEpoch env (x.part.nodes n) g → NodeComes x n epoch heads g → Helps x (node_goes x n env heads g)
          → NodesGo k.nodes x (node_goes x n env heads g)
      goes-nodes (Offered parts) at comes help =
          turns.offered-go k x may.given way.nodes n epoch env is heads first others parts
          (ap (picked (epoch_offered n)) comes.seen ∙ this-hears comes.bytes (Some epoch) (ap (epoch_if is_offer) comes.spells)
          ∙ ap (λ (e : ℕ). e ∷ []) (sym is.epoch_is))
          (subst (λ (e : ℕ). IsDecided e (x.part.nodes n).row ⊎ IsOffered n e x.part.front.row) (sym is.epoch_is)
          (offer-says x may.given n epoch parts comes.bytes comes.was comes.spells)) help
      goes-nodes (Completed r path) at comes help =
          let d : node.NodeDeed = node_read env (x.part.nodes n) r in
          read-nodes r path (node_does x n heads d) (heads-at d ∙ comes)
          (turns.rule-goes k x may.given way.nodes n epoch env is heads first others (no-offers (Completed r path) comes tt) (Completed r path) at tt
          (behind-read r path (node_does x n heads d) help))
      goes-nodes g at comes help = turns.rule-goes k x may.given way.nodes n epoch env is heads first others (no-offers g comes tt) g at tt help

  does-goes : (epoch : ℕ) (env : NodeEnv) (heads : List Seen) (g : NodeGets) → IsNodeEnv k x.c n epoch env → IsInItsEpoch env (x.part.nodes n) g
      → NodeComes x n epoch heads g → Goes k x (node_goes x n env heads g)
  does-goes epoch env heads g is at comes may way help =
      let seen = of-heads x n (λ hs. Each (IsApart x.c) hs × Each IsBare hs × Each IsFirst hs × ((m : ℕ) → m ≢ n → picked (epoch_offered m) hs ≡ []))
      (λ from bytes. (packet-apart from bytes, (tt, tt), (tt, tt), others-unheard from bytes)) (tt, tt, tt, λ m other. refl)
      ((tt, tt), ((tt, tt), tt), (tt, tt), λ m other. refl) epoch heads g comes in (
        node-front (job_notes x.c n g) heads seen.0 seen.1 way.front (node_rule env (x.part.nodes n) g) help,
        goes-nodes epoch env is heads may way seen.2 seen.3 g at.0 comes help,
      )

  -- ---- what it does for another one

  stands-goes : (heads : List Seen) (notes : List Rec) (ms : List (Place × List ℕ)) → IsClear x heads → ((m : ℕ) → pick (node_took m) notes ≡ []) → Goes k x (stands x (Node n) heads (record { notes = notes; segments = []; gave = []; messages = ms }))
  stands-goes heads notes ms clear none may way help =
      let v : Move = stands x (Node n) heads (record { notes = notes; segments = []; gave = []; messages = ms }) in (
        else-moves x v help way.front tt clear.apart clear.bare refl (node-fresh way.front [] ms),
        nodes-go k.nodes x v (λ m. quiet-at k.nodes m x v help.own way.nodes clear.first (clear.offers m) (none m) refl refl (way.nodes.late m)),
      )

  between-clear : (from : ℕ) (bytes : List ℕ) → IsClear x (packet_seen (Node from) (Node n) bytes)
  between-clear from bytes = record { apart = packet-apart (Node from) bytes; bare = (tt, tt); first = (tt, tt); offers = λ m. refl }

  nothing-clear : IsClear x []
  nothing-clear = record { apart = tt; bare = tt; first = tt; offers = λ m. refl }

  aside-goes : (a : Aside) → Goes k x (stands x (Node n) (aside_seen n a) (aside_said k n x.c a))
  aside-goes (Answers from epoch r path file bytes) = stands-goes (packet_seen (Node from) (Node n) bytes) []
      (content_said k n from x.c epoch r path).messages (between-clear from bytes) (λ m. refl)
  aside-goes (Queues from epoch r path file bytes) = stands-goes (packet_seen (Node from) (Node n) bytes) (rec.Queued n from x.c r path ∷ []) []
      (between-clear from bytes) (λ m. refl)
  aside-goes (Brings from epoch r path) = stands-goes [] (rec.Read n from x.c r path ∷ []) (content_said k n from x.c epoch r path).messages nothing-clear
      (λ m. refl)

-- ---- a packet that no rule hears

module _ (k : Setting) (x : Conn) (from to : Place) (bytes : List ℕ) where
  -- what brings a connection back is heard
  heard-back : (k : Kind) → is_back k ≡ true → IsForFront k
  heard-back kind.Ended back = tt
  heard-back kind.Refused back = tt
  heard-back kind.Give back = tt
  heard-back _ back = let no : false ≡ true = back in absurd cc

  -- so what is not heard does not bring it back
  none-comes : ((m : Message) → decoded_message bytes ≡ Ok m → IsForFront (kind_of m.body) → ⊥) → epoch_if is_back (decoded_message bytes) ≡ None
  none-comes other = go (decoded_message bytes) refl where
    by-kind : (m : Message) → decoded_message bytes ≡ Ok m → (b : Bool) → is_back (kind_of m.body) ≡ b → cond b (Some m.epoch.0) None ≡ None
    by-kind m e true back = absurd (other m e (heard-back (kind_of m.body) back))
    by-kind m e false back = refl

    go : (r : Result Message MsgFault) → decoded_message bytes ≡ r → epoch_if is_back r ≡ None
    go (Err fault) e = refl
    go (Ok m) e = by-kind m e (is_back (kind_of m.body)) refl

  unheard-apart : IsKnown x → Was x from to bytes → IsUnheard k.nodes x.part.station from to bytes → Each (IsApart x.c) (packet_seen from to bytes)
  unheard-apart known was unheard = (one from to was unheard, tt) where
    one : (from to : Place) → Was x from to bytes → IsUnheard k.nodes x.part.station from to bytes → (segment_on x.c from to bytes ≡ None) × (syn_on x.c from to bytes ≡ false) × (told_of is_back from to bytes ≡ None)
    one (Client d) Front w none = absurd (has-each IsNotOfClient (record { from = Client d; to = Front; bytes = bytes }) x.letters w (known.fresh none))
    one (Client d) (Client e) w u = (refl, refl, refl)
    one (Client d) (Node m) w u = (refl, refl, refl)
    one (Node n) Front w u = (refl, refl, none-comes u)
    one (Node n) (Client e) w u = (refl, refl, refl)
    one (Node n) (Node m) w u = (refl, refl, refl)
    one Front Front w u = (refl, refl, refl)
    one Front (Client e) w u = (refl, refl, refl)
    one Front (Node m) w u = (refl, refl, refl)

  -- no Offer comes to a node that is there
  no-offer : (n : ℕ) → IsUnheard k.nodes x.part.station from to bytes → is_no_node k.nodes n ≡ false → picked (epoch_offered n) (packet_seen from to bytes) ≡ []
  no-offer n unheard there = append-nil (listed (offer_on n from to bytes)) ∙ ap listed (one from to unheard) where
    by-number : (m : ℕ) → ((msg : Message) → decoded_message bytes ≡ Ok msg → IsForNode (kind_of msg.body) → is_no_node k.nodes m ≡ true) → (b : Bool) → nat_eq m n ≡ b → cond b (epoch_if is_offer (decoded_message bytes)) None ≡ None
    by-number m unheard false e = refl
    by-number m unheard true e = go (decoded_message bytes) refl where
      same : m ≡ n
      same = eqb-true m n e

      by-kind : (msg : Message) → decoded_message bytes ≡ Ok msg → (j : Kind) → kind_of msg.body ≡ j → cond (is_offer j) (Some msg.epoch.0) None ≡ None
      by-kind msg f kind.Offer is =
          let none : is_no_node k.nodes n ≡ true = ap (is_no_node k.nodes) (sym same) ∙ unheard msg f (subst IsForNode (sym is) tt) in
          absurd (both_ways (is_no_node k.nodes n) there none)
      by-kind msg f _ is = refl

      go : (r : Result Message MsgFault) → decoded_message bytes ≡ r → epoch_if is_offer r ≡ None
      go (Err fault) f = refl
      go (Ok msg) f = by-kind msg f (kind_of msg.body) refl

    one : (from to : Place) → IsUnheard k.nodes x.part.station from to bytes → offer_on n from to bytes ≡ None
    one Front (Node m) u = by-number m u (nat_eq m n) refl
    one Front Front u = refl
    one Front (Client d) u = refl
    one (Node j) to u = refl
    one (Client d) to u = refl

  ignores-goes : Was x from to bytes × IsNobody x.part.station to × IsUnheard k.nodes x.part.station from to bytes → Goes k x (stands x to (packet_seen from to bytes) nothing_said)
  ignores-goes was may way help =
      let v : Move = stands x to (packet_seen from to bytes) nothing_said in
      let known : IsKnown x = way.front in (
        quiet-moves x v help known (record {
          heads = unheard-apart known was.0 was.2;
          bare = (tt, tt);
          notes = tt;
          gave = tt;
          segments = refl;
          messages = refl;
          row = known.row;
          kept = known.kept;
          fresh = λ none. Each-append IsNotOfClient x.letters [] (known.fresh none) tt;
        }),
        nodes-go k.nodes x v (λ n. record {
          takes = [];
          takes_are = seen-took n x v help.own (tt, tt) [] refl;
          due = λ there. ap (above (highest (picked (of_row (node_took n)) x.seen))) (sym (seen-offers n x v help.own (tt, tt) [] (no-offer n was.2 there)));
          ends = subst (λ (l : List ℕ). EachIsTold l (picked (of_row (from_node n)) (seen_in x v))) (sym (seen-gave n x v help.own (tt, tt) [] refl)) tt;
          up = tt;
          then = max-none (highest (picked (of_row (node_took n)) x.seen)) ∙ way.nodes.highest_is n;
          late = way.nodes.late n;
        }),
      )

-- ---- every rule

module _ (k : Setting) where
  clients : ClientRules k (Goes k)
  clients = each-client k (Goes k) (record {
    opens = λ x isn iss wnd mss rule none. begins-goes k x isn iss wnd mss;
    does = λ x s g there comes. client-goes k x (client_seen x.c g) s (client_rule x.c s.client g)
        (of-client x.c (IsClear x) (λ from bytes. client-clear x from x.c bytes) (event-clear k x) g);
  })

  pub all-go : Rules k (Goes k)
  all-go = record {
    untouched = record {
      client = clients;
      front = each-front k (Goes k) (λ x env heads g is comes. front-goes k x env is heads g comes);
      node = each-node k (Goes k)
          (record { does = λ x n epoch env heads g is at comes. does-goes k x n epoch env heads g is at comes; aside = λ x n a rest. aside-goes k x n a });
      ignores = λ x from to bytes was. ignores-goes k x from to bytes was;
    };
    injects = λ x s bytes there rule. injects-goes k x s bytes;
  }
