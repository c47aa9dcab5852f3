-- What a node does acknowledges what was taken.
use Rattle.std.proofs.Common.{◌≡◌, ◌≢◌, ◌≤◌, ◌<◌, ◌^◌, nat_lt, ℕ, Bool, true, false, List, [], ◌∷◌, ◌++◌, map, Option, Some, None, Ok, inr, ⊎_elim, refl, sym, ap, ◌∙◌, subst, arith}
use Rattle.std.proofs.lemmas.Bool.{ltb-true, ltb-false}
use Rattle.lard_law_view.specs.Prelude.{Asked, BackRow, Conn, ControlBlock, Ending, EndpointParts, Front, FrontConn, FrontRow, IsConnNumber, IsConnSound, IsNodeEnv, IsStream, IsWord, Move, Node, NodeDeed, NodeEnv, NodeGets, NodePart, Part, Place, Progress, Ready, Said as Segment, Seen, ServeEnv, Service, Setting, SpellsMessage, Station, Stay, Stream, Talk, Turn, Verdict, Want, Was, Work, adopted, after_timer, again_sent, all_sent, asked_sent, came_for, come_progress, ended_sent, filled, give_kept, gives_back, goes_on, gone, here, kept_after, kept_back, kept_refused, letter, node_begins, node_does, node_fired, node_put_back, node_saying, offer_answer, offered_by, on_segment, parts_of, read_progress, reads_batch, refused_sent, reset_count, sent_of, serving, serving_ready_of, serving_settled, speaks, spoken, state_of, tagged, taken_sent, tale_at, timed, told_kind, turn_back, turn_by, wants_sent, with_node, with_work, without, work_of}
use Rattle.lard_base.specs.declared.place.TimerKind.TheVariants as timer
use Rattle.lard_laws.specs.Acks.{ActsWithin, BackActs, BackStageActs, Bounds, EndActs, FrontActs, FrontBodyActs, FrontStageActs, LetterActs, PartsAct}
use Rattle.lard_laws.proofs.AcksFronts as fronts
use Rattle.lard_laws.proofs.AcksFronts.{between-held, past-acts, past-over}
use Rattle.lard_laws.proofs.AcksGrowing.{letters-on, replies-act}
use Rattle.lard_laws.proofs.AcksMessages.{ended-acts, other-node}
use Rattle.lard_laws.proofs.AcksOffers.{IsOfferOf, new-is, new-offer, offered-acts, offered-between}
use Rattle.lard_laws.proofs.AcksReading.{Serves, stay-keeps, stays-heard, stays-holds}
use Rattle.lard_laws.proofs.AcksTurns.{PlaceActs, idle-acts}
use Rattle.lard_laws.proofs.NodeDeeds.{again-letters, forwarded-word}
use Rattle.lard_law_connections.specs.BytesAgreement.{IsOpen, RowAgrees, StayAgrees}
use Rattle.lard_law_connections.proofs.BytesNodeMoves.{has-it, known}
use Rattle.lard_law_connections.proofs.LimitsWorking.{KeptByServing, batch-state, came-so, goes-so, tagged-so}
use Rattle.lard_law_connections.specs.Places.{HasEnded, IsComing, IsDecided, IsOffered, IsOver, IsPast, IsThere, LetterMay, Offers, OthersArePast, Owning, Sits, StageSits, owning}
use Rattle.lard_law_connections.proofs.PlacesGrowing.{Grows}
use Rattle.lard_law_connections.proofs.PlacesFrontRules.{has-each}
use Rattle.lard_law_connections.proofs.PlacesNodeRules.{by-node, past-held}
use Rattle.lard_law_connections.proofs.PlacesTurns.{IsPlaced}
use Rattle.lard_law_view.proofs.EachNode.{HasForwarded, NodeComes, node_goes}
use Rattle.lard_law_view.proofs.Parts.{put-each, put-same}
use Rattle.lard_handoff_back.specs.declared.row.BackConn.TheVariants as back
use Rattle.lard_handoff_back.specs.declared.table.Adopt.TheVariants.{New}
use Rattle.lard_handoff_front.specs.declared.row.FrontConn.TheVariants as stage
use Rattle.lard_history.proofs.Each.{Each, Each-append}
use Rattle.lard_law_view.proofs.EndpointStreams.{IsBetween, between-arrived, between-timed}
use Rattle.lard_law_view.proofs.Acked as Acked
use Rattle.lard_law_view.proofs.Acked.{RepliesMay, ServingActed, WordMay, heard_at, heard_by}
use Rattle.lard_law_view.proofs.EndpointArriving.{Holds, arrival-grows, arrival-holds}
use Rattle.lard_law_view.proofs.EndpointReading.{Reads, Spans}
use Rattle.lard_law_view.proofs.EndpointActs.{settled-acts, spoken-acts}
use Rattle.lard_law_view.proofs.EndpointSaying.{timed-may, timer-left}
use Rattle.lard_message.specs.declared.message.Body.TheVariants as body
use Rattle.lard_rules.proofs.NodeCases.{IsHereWith, IsOfItsEpoch, KeptByNode, Turned, node-keeps, of-here}
use Rattle.lard_rules.specs.Node.{Drops, Says, Does}
use Rattle.lard_rules.specs.declared.places.Ending.TheVariants as ending
use Rattle.lard_rules.proofs.Endings.{rested-keeps, settled-keeps}

-- ---- the end of a turn

-- last numbers fit their fields
abbrev EndFits : Ending → Type 0
EndFits (ending.Here b count) = Unit {0}
EndFits (ending.Over last) = (last.snd.0 < 2 ^ 32) × (last.rcv.0 < 2 ^ 32)

spoken-fits : (env : ServeEnv) (s : Service) (before : List (Place × List ℕ)) → EndFits (spoken env s before).0
spoken-fits env s before = rested-keeps EndFits (speaks env.c s.block).1 s.count (λ t. (omega arith, omega arith)) (λ t. tt)

settled-fits : (env : ServeEnv) (s : Service) → EndFits (serving_settled env s).0
settled-fits env s = settled-keeps (λ given. EndFits given.0) env s (λ e. spoken-fits env s []) (λ total e. (omega arith, omega arith))

-- ---- one connection

module _ (k : Setting) (small : k.stream ≤ 2 ^ 30) (x : Conn) (number : IsConnNumber x.c) (sound_x : IsConnSound x) (at_place : IsPlaced x) (s : Station) (l : Talk) (pend : List Verdict) (o : IsOpen k.files x l pend s) (heard_so : ℕ) (aborted : Bool) where
  abbrev bounds : Bounds
  bounds = record { isn = l.w.first; iss = s.iss; heard = heard_so; taken = Acked.taken_by s.client; aborted = aborted }

  abbrev nodes : ℕ → NodePart
  nodes = x.part.nodes

  abbrev own : Owning
  own = owning (tale_at x)

  is_stream : IsStream l.w
  is_stream = fronts.is_stream k small x number sound_x at_place s l pend o heard_so aborted

  iss_fits : s.iss < 2 ^ 32
  iss_fits = fronts.iss_fits k small x number sound_x at_place s l pend o heard_so aborted

  -- No other place has the connection, what was offered was decided, and the end of each stay is known.
  record IsHere (n e : ℕ) : Type 0 where
    front : (b : Bounds) → FrontActs b x.part.front.row
    others : (b : Bounds) (m : ℕ) → m ≢ n → BackActs b (nodes m).row
    offered : (m d : ℕ) → IsOffered m d x.part.front.row → (m ≡ n) × (d ≤ e)
    over : (m d : ℕ) → IsOver d (nodes m).row → HasEnded d x.part.front.row

  -- where the front end offered it to node n, or knows that it is there
  here-at : (f : FrontRow) (n : ℕ) → x.part.front.row ≡ Some f → (st : FrontConn) → f.stage ≡ st → ((b : Bounds) → FrontStageActs b st) → OthersArePast n f.epoch.0 nodes
      → ((m d : ℕ) → Offers m d st → (m ≡ n) × (d ≤ f.epoch.0)) → ((d : ℕ) → IsOver d (nodes n).row → HasEnded d x.part.front.row) → IsHere n f.epoch.0
  here-at f n found st at acts others offers mine = record {
    front = λ b. subst (FrontActs b) (sym found) (subst (FrontStageActs b) (sym at) (acts b));
    others = λ b m other. past-acts b f.epoch.0 (nodes m).row (others m other);
    offered = λ m d offered. offers m d (subst (Offers m d) at (subst (IsOffered m d) found offered));
    over = λ m d over. by-node n m (HasEnded d x.part.front.row)
        (λ same. mine d (subst (λ (j : ℕ). IsOver d (nodes j).row) same over))
        (λ other. subst (HasEnded d) (sym found) (past-over f.epoch.0 d (nodes m).row (others m other) over));
  }

  -- a node that has an endpoint of it
  has-here : (n : ℕ) (row : BackRow) (b : ControlBlock) → (nodes n).row ≡ Some row → row.stage ≡ back.Here b → (q : Option FrontRow) → x.part.front.row ≡ q → IsHere n row.epoch.0
  has-here n row b is at None found = let w : Sits own nodes None = subst (Sits own nodes) found at_place.sits in absurd (past-held 0 (nodes n).row row b is at (w.1 n))
  has-here n row b is at (Some f) found = go f.stage refl (let w : Sits own nodes (Some f) = subst (Sits own nodes) found at_place.sits in w.0) where
    no : (e : ℕ) → IsPast e (nodes n).row → ⊥
    no e past = past-held e (nodes n).row row b is at past

    mine : (d : ℕ) → IsOver d (nodes n).row → HasEnded d x.part.front.row
    mine = known x l pend o.seat at_place n row b is at

    there : (m : ℕ) → IsThere m f.epoch.0 own (nodes n).row → IsHere n f.epoch.0 → IsHere n row.epoch.0
    there m t here = let same : IsThere m f.epoch.0 own (Some row) = subst (IsThere m f.epoch.0 own) is t in subst (IsHere n) (sym same.0) here

    go : (st : FrontConn) → f.stage ≡ st → StageSits f.epoch.0 own nodes st → IsHere n row.epoch.0
    go (stage.Held c) e w = absurd (no f.epoch.0 (w.1.1 n))
    go (stage.Waiting c) e w = absurd (no f.epoch.0 (w.1.1 n))
    go stage.Lent e w = absurd w
    go (stage.Offering m d) e w = by-node m n (IsHere n row.epoch.0)
        (λ same. ⊎_elim
        (λ (coming : IsComing f.epoch.0 own (nodes m).row). absurd (no f.epoch.0 (subst (λ (j : ℕ). IsPast f.epoch.0 (nodes j).row) (sym same) coming.2)))
        (λ (t : IsThere m f.epoch.0 own (nodes m).row). there m (subst (λ (j : ℕ). IsThere m f.epoch.0 own (nodes j).row) (sym same) t)
        (here-at f n found (stage.Offering m d) e (λ v. tt) (subst (λ (j : ℕ). OthersArePast j f.epoch.0 nodes) (sym same) w.2) (λ i g q. (sym q.0 ∙ sym same, omega (arith, q.1, w.1))) mine)) w.3)
        (λ other. absurd (no f.epoch.0 (w.2 n other)))
    go (stage.Moved m d) e w = by-node m n (IsHere n row.epoch.0)
        (λ same. there m (subst (λ (j : ℕ). IsThere m f.epoch.0 own (nodes j).row) (sym same) w.3)
        (here-at f n found (stage.Moved m d) e (λ v. tt) (subst (λ (j : ℕ). OthersArePast j f.epoch.0 nodes) (sym same) w.2) (λ i g q. absurd q) mine))
        (λ other. absurd (no f.epoch.0 (w.2 n other)))
    go (stage.Closed last) e w = absurd (no f.epoch.0 (w.1.1 n))

  -- an endpoint that goes on from here took no less, and acknowledges no more than was taken
  abbrev GoesOver : ControlBlock → Type 0
  GoesOver b = (heard_so ≤ heard_by b.recv) × Spans l.w s.iss b × Holds (Acked.taken_by s.client) aborted b

  module _ (h : ActsWithin x bounds) where
    -- the endpoint that is here
    record HasIt (n e : ℕ) (b : ControlBlock) : Type 0 where
      here_is : IsHere n e
      goes : GoesOver b

    here-has : (n e : ℕ) (b : ControlBlock) (t : Stay) → IsHereWith e (nodes n) b t → HasIt n e b
    here-has n e b t at =
        let act : BackStageActs bounds (back.Here b) = of-here (λ q u. BackActs bounds q) e (nodes n) b t at (h.nodes n) in
        let it = has-it x l pend o.seat at_place n at.row b at.found at.staged in
        let agrees : StayAgrees l.w l.out l.vs pend b (Some t) =
        of-here (λ q u. RowAgrees l.w l.out l.vs pend l.was_reset x.c (record (nodes n) { stay = u }) q) e (nodes n) b t at it.agrees in
        record {
          here_is = subst (IsHere n) at.epoch_is (has-here n at.row b at.found at.staged x.part.front.row refl);
          goes = ((let same = act.0 in omega arith), (l.out, o.begins, between-held l.w l.out l.vs pend b t.served agrees.1), act.1);
        }

    -- ---- what a node does

    module _ (n epoch : ℕ) (env : NodeEnv) (is : IsNodeEnv k x.c n epoch env) (heads : List Seen) where
      abbrev ours : NodePart
      ours = x.part.nodes n

      abbrev Stays : NodeDeed → Type 0
      Stays d = PlaceActs x (node_does x n heads d) bounds

      abbrev within : env.serve.stream ≤ 2 ^ 30
      within = subst (λ (m : ℕ). m ≤ 2 ^ 30) (sym is.stream) small

      dropped : Stays Drops
      dropped = idle-acts x (node_does x n heads Drops) bounds (record { front = h.front; nodes = h.nodes; letters = tt })

      says : (ms : List (Place × List ℕ)) → Each (LetterActs x.c bounds x.part) (map (letter (Node n)) ms) → Stays (Says ms)
      says ms sent = idle-acts x (node_does x n heads (Says ms)) bounds (record { front = h.front; nodes = h.nodes; letters = sent })

      -- ---- what it says at the end of a turn

      abbrev Tells : Bounds → Part → List (Place × List ℕ) → Type 0
      Tells b q ms = Each (LetterActs x.c b q) (map (letter (Node n)) ms)

      tells-append : (b : Bounds) (q : Part) (ms ns : List (Place × List ℕ)) → Tells b q ms → Tells b q ns → Tells b q (ms ++ ns)
      tells-append b q [] ns f g = g
      tells-append b q (m ∷ ms) ns f g = (f.0, tells-append b q ms ns f.1 g)

      asked-tells : (b : Bounds) (q : Part) (a : Option Asked) → Tells b q (asked_sent env a)
      asked-tells b q None = tt
      asked-tells b q (Some a) = (other-node b q x.c n env.serve.c env.epoch (body.Ask a.number a.queue a.size a.paths) (λ i. cc), tt)

      wants-tell : (b : Bounds) (q : Part) (ws : List Want) → Tells b q (wants_sent env ws)
      wants-tell b q [] = tt
      wants-tell b q (w ∷ ws) = (tt, wants-tell b q ws)

      taken-tells : (b : Bounds) (q : Part) → Tells b q (taken_sent env)
      taken-tells b q = (other-node b q x.c n env.serve.c env.epoch body.Taken (λ i. cc), tt)

      refused-tells : (b : Bounds) (q : Part) → Tells b q (refused_sent env)
      refused-tells b q = (other-node b q x.c n env.serve.c env.epoch body.Refused (λ i. cc), tt)

      all-tell : (b : Bounds) (q : Part) (before : List (Place × List ℕ)) (work : Work) → Tells b q before → Tells b q (all_sent env before work)
      all-tell b q before work first = tells-append b q (before ++ asked_sent env work.asked) (wants_sent env work.wants)
          (tells-append b q before (asked_sent env work.asked) first (asked-tells b q work.asked)) (wants-tell b q work.wants)

      give-tells : (b : Bounds) (q : Part) (work : Work) → Tells b q (sent_of (give_kept env work) ∷ [])
      give-tells b q work = (other-node b q x.c n env.serve.c env.epoch (body.Give (parts_of work.service.block work.service.count)) (λ i. cc), tt)

      ended-tells : (b : Bounds) (q : Part) (over : Option ℕ) (e : Ending) → EndFits e → EndActs b e → Tells b q (ended_sent env over e)
      ended-tells b q over (ending.Here block count) fits act = tt
      ended-tells b q over (ending.Over last) fits act = (ended-acts b q x.c n env.serve.c env.epoch (reset_count over) last fits.0 fits.1 act, tt)

      row-acts : (b : Bounds) (p : NodePart) (w : Work) (e : Ending) → EndActs b e → BackActs b (kept_after env p w e).row
      row-acts b p w (ending.Here block count) act = act
      row-acts b p w (ending.Over last) act = tt

      row-decided : (p : NodePart) (w : Work) (e : Ending) (d : ℕ) → d ≤ env.epoch → IsDecided d (kept_after env p w e).row
      row-decided p w (ending.Here block count) d le = le
      row-decided p w (ending.Over last) d le = le

      abbrev Turns : Ending × Turn → Type 0
      Turns given = ServingActed env.serve.c l.w.first s.iss (Acked.taken_by s.client) aborted heard_so given

      -- where the connection is here, each Offer is decided behind its turn
      all-decided : IsHere n env.epoch → (q : NodePart) → ((d : ℕ) → d ≤ env.epoch → IsDecided d q.row) → (m d : ℕ) → IsOffered m d x.part.front.row → IsDecided d (node_put_back nodes n q m).row
      all-decided it q decided m d offered =
          let at = it.offered m d offered in
          subst (λ (j : ℕ). IsDecided d (node_put_back nodes n q j).row) (sym at.0) (subst (λ (r : NodePart). IsDecided d r.row) (sym (put-same nodes n q)) (decided d at.1))

      -- a turn of the node that has it
      turn-act : IsHere n env.epoch → (part : NodePart) (before : List (Place × List ℕ)) (work : Work) (given : Ending × Turn) → Turns given → EndFits given.0
          → Tells (record bounds { heard = heard_at l.w.first given.0 }) (with_node x.part n (kept_after env part work given.0)) before
          → Stays (Does (kept_after env part work given.0, turn_by env before work given))
      turn-act it part before work given act fits first =
          let q : NodePart = kept_after env part work given.0 in
          let v : Move = node_does x n heads (Does (q, turn_by env before work given)) in
          let then : Bounds = record bounds { heard = heard_at l.w.first given.0 } in
          let ends : EndActs then given.0 = (refl, act.holds) in
          record {
            then = heard_at l.w.first given.0;
            more = act.grows;
            offers = inr (all-decided it q (row-decided part work given.0));
            ends = inr it.over;
            front = it.front then;
            nodes = put-each nodes n q (λ m r. BackActs then r.row) (row-acts then part work given.0 ends) (λ m other. it.others then m other);
            letters = Each-append (LetterActs x.c then v.part) (map (letter (Node n)) given.1.segments) (map (letter (Node n)) (turn_by env before work given).messages)
                (replies-act x.c then v.part (Node n) given.1.segments (subst (λ (c : ℕ). RepliesMay c l.w.first (heard_at l.w.first given.0) given.1.segments) is.number act.sent))
                (tells-append then v.part (all_sent env before work) (ended_sent env work.service.over given.0)
                (all-tell then v.part before work first)
                (ended-tells then v.part work.service.over given.0 fits ends));
          }

      -- or the connection goes back, and all that its endpoint took is taken
      back-act : IsHere n env.epoch → (part : NodePart) (before : List (Place × List ℕ)) (work : Work) → GoesOver work.service.block → ((b : Bounds) (q : Part) → Tells b q before) → Stays (gives_back env part before work)
      back-act it part before work goes first =
          let q : NodePart = kept_back env part work in
          let v : Move = node_does x n heads (Does (q, turn_back env before work)) in
          let then : Bounds = record bounds { heard = heard_by work.service.block.recv } in
          record {
            then = heard_by work.service.block.recv;
            more = goes.0;
            offers = inr (all-decided it q (λ d le. le));
            ends = inr it.over;
            front = it.front then;
            nodes = put-each nodes n q (λ m r. BackActs then r.row) tt (λ m other. it.others then m other);
            letters = tells-append then v.part (all_sent env before work) (sent_of (give_kept env work) ∷ []) (all-tell then v.part before work (first then v.part)) (give-tells then v.part work);
          }

      works-act : IsHere n env.epoch → (part : NodePart) (before : List (Place × List ℕ)) (work : Work) → GoesOver work.service.block → ((b : Bounds) (q : Part) → Tells b q before) → Stays (with_work env part before work)
      works-act it part before work goes first = turn-act it part before work (serving_settled env.serve work.service)
          (settled-acts env.serve l.w s.iss (Acked.taken_by s.client) aborted is_stream heard_so work.service goes.0 goes.1 goes.2) (settled-fits env.serve work.service)
          (first (record bounds { heard = heard_at l.w.first (serving_settled env.serve work.service).0 }) (with_node x.part n (kept_after env part work (serving_settled env.serve work.service).0)))

      -- behind the node's reading it goes on so
      reads-act : (b : ControlBlock) (w : Service) → GoesOver b → Reads l.w s.iss b w.block → GoesOver w.block
      reads-act b w goes read = (
        (let same = stays-heard b w.block read.0 in let le = goes.0 in omega arith),
        read.1,
        stays-holds b w.block (Acked.taken_by s.client) aborted read.0 goes.2,
      )

      abbrev From : ControlBlock → Service → Type 0
      From b = Serves l.w s.iss b env.serve within

      keeps : (b : ControlBlock) → KeptByServing env.serve (From b)
      keeps b = stay-keeps l.w s.iss b env.serve within

      goes-act : IsHere n env.epoch → (part : NodePart) (b : ControlBlock) (work : Work) → GoesOver b → From b work.service → Turned Stays env part [] (goes_on env work)
      goes-act it part b work goes from =
          let on : GoesOver (goes_on env work).service.block = reads-act b (goes_on env work).service goes (goes-so env (From b) (keeps b) work from) in
          (λ rests. works-act it part [] (goes_on env work) on (λ b q. tt), λ back. back-act it part [] (goes_on env work) on (λ b q. tt))

      -- as it is
      from-here : (b : ControlBlock) (t : Stay) → GoesOver b → From b (work_of b t).service
      from-here b t goes = ((refl, refl, refl, refl), goes.1)

      -- ---- a segment that was forwarded

      heard-act : (sd : Segment) → IsWord l.w sd → WordMay s.iss (Acked.taken_by s.client) aborted sd → (b : ControlBlock) (t : Stay) → HasIt n env.epoch b
          → Turned Stays env ours [] (goes_on env (work_of (on_segment b sd).1 t))
      heard-act sd word may b t it =
          let goes : GoesOver b = it.goes in
          let iss : s.iss ≡ b.send.iss = sym goes.1.1 ∙ ap (λ (z : Stream). z.first) goes.1.2.out_is in
          let after : GoesOver (on_segment b sd).1 = (
            (let up = arrival-grows b sd in let le = goes.0 in omega arith),
            (goes.1.0, goes.1.1, between-arrived l.w goes.1.0 b goes.1.2 sd is_stream word.true_of),
            arrival-holds s.iss (Acked.taken_by s.client) aborted b sd iss_fits iss goes.2 may,
          ) in
          goes-act it.here_is ours (on_segment b sd).1 (work_of (on_segment b sd).1 t) after (from-here (on_segment b sd).1 t after)

      -- what came was a word of the client's, and acknowledges what was taken
      forwarded-may : (sd : Segment) → HasForwarded x n epoch (Ok sd) heads → WordMay s.iss (Acked.taken_by s.client) aborted sd
      forwarded-may sd m =
          let told = has-each (LetterActs x.c bounds x.part) (record { from = Front; to = Node n; bytes = m.came.bytes }) x.letters m.came.was h.packets in
          told _ m.came.spells sd (sym m.read)

      -- ---- a content, a job

      came-act : (part : NodePart) (f : Progress → Progress) (r : ℕ) (b : ControlBlock) (t : Stay) → HasIt n env.epoch b
          → Turned Stays env part [] (goes_on env (came_for f r (work_of b t)))
      came-act part f r b t it = goes-act it.here_is part b (came_for f r (work_of b t)) it.goes
          (came-so env (From b) (keeps b) f r (work_of b t) (from-here b t it.goes))

      -- ---- the end of a stay

      gone-acts : (q : Option BackRow) → BackActs bounds (gone q)
      gone-acts None = tt
      gone-acts (Some row) = tt

      gone-act : (back : Bool) → Stays (Does (record ours { row = gone ours.row; kept = without (told_kind back) 0 ours.kept }, node_saying []))
      gone-act back =
          let q : NodePart = record ours { row = gone ours.row; kept = without (told_kind back) 0 ours.kept } in
          idle-acts x (node_does x n heads (Does (q, node_saying []))) bounds (record {
            front = h.front;
            nodes = put-each nodes n q (λ m r. BackActs bounds r.row) (gone-acts ours.row) (λ m other. h.nodes m);
            letters = tt;
          })

      -- ---- its timers

      again-tells : Tells bounds x.part (again_sent ours)
      again-tells = again-letters (LetterActs x.c bounds x.part) x sound_x h.packets n

      here-fires : (b : ControlBlock) (t : Stay) → HasIt n env.epoch b
          → (let given : Ending × Turn = spoken env.serve (serving (after_timer b) t.served []) (serving_ready_of env.serve (after_timer b) (timed b)) in Grows x.part (node_does x n heads (Does (node_fired env ours (b, t) given))).part → Stays (Does (node_fired env ours (b, t) given)))
      here-fires b t it grows =
          let goes : GoesOver b = it.goes in
          let left = timer-left b in
          let recv : heard_by (after_timer b).recv ≡ heard_by b.recv = ap heard_by left.0 in
          let before : List (Place × List ℕ) = serving_ready_of env.serve (after_timer b) (timed b) in
          let given : Ending × Turn = spoken env.serve (serving (after_timer b) t.served []) before in
          let act : Turns given = spoken-acts env.serve l.w s.iss (Acked.taken_by s.client) aborted is_stream heard_so (serving (after_timer b) t.served []) before
          (let le = goes.0 in omega arith) (goes.1.0, goes.1.1, between-timed l.w goes.1.0 b goes.1.2)
          ((let same = left.1 in let le = goes.2.0 in omega arith), λ f. goes.2.1 (sym left.2 ∙ f))
          (subst (λ (m : ℕ). RepliesMay env.serve.c l.w.first m before) (sym recv) (replies goes (timed b) refl)) in
          let then : Bounds = record bounds { heard = heard_at l.w.first given.0 } in
          let q : Part = with_node x.part n (kept_after env ours (work_of (after_timer b) t) given.0) in
          turn-act it.here_is ours (again_sent ours) (work_of (after_timer b) t) given act (spoken-fits env.serve (serving (after_timer b) t.served []) before)
          (letters-on x.c bounds then x.part q
          (record {
            widens = record { isn = refl; iss = refl; heard = act.grows; taken = omega arith; aborted = λ e. e };
            grows = grows;
            offers = inr (all-decided it.here_is (kept_after env ours (work_of (after_timer b) t) given.0) (row-decided ours (work_of (after_timer b) t) given.0));
            ends = inr it.here_is.over;
          })
          (map (letter (Node n)) (again_sent ours)) (again-letters (LetterMay x.part) x sound_x at_place.letters n) again-tells)
        where
          replies : (goes : GoesOver b) (r : Option Ready) → timed b ≡ r → RepliesMay env.serve.c l.w.first (heard_by b.recv) (serving_ready_of env.serve (after_timer b) r)
          replies goes None e = tt
          replies goes (Some r) e = let may = timed-may l.w goes.1.0 b r goes.1.2 e in ((refl, (filled (after_timer b) r, refl, may.0, may.1)), tt)

      -- ---- an Offer

      -- what the node had is of an earlier epoch, where it has not decided
      less-over : (q : Option BackRow) → (IsDecided epoch q → ⊥) → (d : ℕ) → IsOver d q → d < epoch
      less-over None not d over = absurd over
      less-over (Some row) not d over = go (nat_lt row.epoch.0 epoch) refl where
        go : (t : Bool) → nat_lt row.epoch.0 epoch ≡ t → d < epoch
        go true e = let below = ltb-true row.epoch.0 epoch e in omega (arith, over.0, below)
        go false e = absurd (not (ltb-false row.epoch.0 epoch e))

      module _ (parts : EndpointParts) (bytes : List ℕ) (spells : SpellsMessage x.c epoch (body.Offer parts) bytes) (was : Was x Front (Node n) bytes) where
        acted : FrontBodyActs x.c bounds x.part n epoch (body.Offer parts)
        acted = (has-each (LetterActs x.c bounds x.part) (record { from = Front; to = Node n; bytes = bytes }) x.letters was h.packets) _ spells

        took-act : PartsAct bounds parts → IsHere n env.epoch → IsBetween l.w l.out (adopted parts) → Stays (offered_by env parts ours New)
        took-act act it between =
            let b : ControlBlock = adopted parts in
            let goes : GoesOver b = ((let same = act.heard in omega arith), (l.out, o.begins, between), (act.acknowledged, λ e. absurd cc)) in
            let first : Work = state_of (reads_batch env true (node_begins env parts)) in
            let from : From b first.service = batch-state env (From b) (keeps b) true (node_begins env parts) refl ((refl, refl, refl, refl), goes.1) in
            works-act it ours (taken_sent env) (goes_on env first) (reads-act b (goes_on env first).service goes (goes-so env (From b) (keeps b) first from)) taken-tells

        -- what is adopted is what was frozen
        new-act : offer_answer epoch ours.row ≡ New → Stays (offered_by env parts ours New)
        new-act new =
            let of : IsOfferOf l pend parts = new-is k.files x number at_place s l pend o n epoch parts bytes spells was new in
            let f = new-offer x at_place n epoch parts bytes spells was new in
            let e : ℕ = f.row.epoch.0 in
            let sits : StageSits e own nodes (stage.Offering f.node f.named) = subst (StageSits e own nodes) f.staged (subst (Sits own nodes) f.found at_place.sits).0 in
            let now : e ≡ env.epoch = sym sits.1 ∙ f.epoch_is ∙ sym is.epoch_is in
            let it : IsHere n e = here-at f.row n f.found (stage.Offering f.node f.named) f.staged (λ v. tt) (subst (λ (j : ℕ). OthersArePast j e nodes) f.node_is sits.2)
            (λ i g q. (sym q.0 ∙ f.node_is, omega (arith, q.1, sits.1)))
            (λ d over. subst (HasEnded d) (sym f.found) (let under = less-over ours.row f.undecided d over in omega (arith, under, now, is.epoch_is))) in
            took-act (offered-acts bounds x.part x.c n epoch parts acted f.row f.found (sym sits.1 ∙ f.epoch_is) f.undecided)
            (subst (IsHere n) now it) (offered-between l pend parts of)

      -- an Offer is refused
      refused-act : Stays (Does (kept_refused env ours, node_saying (refused_sent env)))
      refused-act =
          let q : NodePart = kept_refused env ours in
          idle-acts x (node_does x n heads (Does (q, node_saying (refused_sent env)))) bounds (record {
            front = h.front;
            nodes = put-each nodes n q (λ m r. BackActs bounds r.row) (h.nodes n) (λ m other. h.nodes m);
            letters = refused-tells bounds (with_node x.part n q);
          })

      -- ---- every rule

      -- as long as the connection's part grows
      abbrev Acts : NodeDeed → Type 0
      Acts d = Grows x.part (node_does x n heads d).part → Stays d

      -- however it grows
      once : (part : NodePart) (work : Work) → Turned Stays env part [] work → Turned Acts env part [] work
      once part work turned = (λ rests grows. turned.0 rests, λ back grows. turned.1 back)

      rules_act : KeptByNode env ours (NodeComes x n epoch heads) Acts
      rules_act = record {
        drops = λ grows. dropped;
        hears = λ sd b t m at. once ours (goes_on env (work_of (on_segment b sd).1 t)) (heard-act sd (forwarded-word k.files x s l pend o n epoch heads sd m) (forwarded-may sd m) b t
            (here-has n env.epoch b t at));
        tags = λ number tags b t m at asked same count.
            let it : HasIt n env.epoch b = here-has n env.epoch b t at in
            once (record ours { kept = without timer.Ask 0 ours.kept }) (goes_on env (tagged env tags (work_of b t))) (goes-act it.here_is (record ours { kept = without timer.Ask 0 ours.kept }) b (tagged env tags (work_of b t)) it.goes
            (tagged-so env (From b) (keeps b) tags (work_of b t) (from-here b t it.goes)));
        comes = λ from r b t m at wanted. once (record ours { fetches = without timer.Fetch r ours.fetches }) (goes_on env (came_for (come_progress from) r (work_of b t))) (came-act (record ours { fetches = without timer.Fetch r ours.fetches }) (come_progress from) r b t
            (here-has n env.epoch b t at));
        reads = λ r path b t m at. once ours (goes_on env (came_for read_progress r (work_of b t))) (came-act ours read_progress r b t (here-has n env.epoch b t at));
        begins = λ parts m new may grows. new-act parts m.bytes m.spells m.was (ap (λ e. offer_answer e ours.row) (sym is.epoch_is) ∙ new);
        takes_again = λ parts m again grows. says (taken_sent env) (taken-tells bounds x.part);
        refuses = λ parts m is grows. refused-act;
        fires = λ b t m at. here-fires b t (here-has n env.epoch b t at);
        resends = λ m none grows. says (again_sent ours) again-tells;
        ends = λ back m told was grows. gone-act back;
        leaves = λ b t m at back grows. let it : HasIt n env.epoch b = here-has n env.epoch b t at in back-act it.here_is ours [] (work_of b t) it.goes (λ b q. tt);
      }

      pub rule-act : (g : NodeGets) → IsOfItsEpoch env ours g → NodeComes x n epoch heads g → Grows x.part (node_goes x n env heads g).part
          → PlaceActs x (node_goes x n env heads g) bounds
      rule-act g at comes grows =
          let p = node-keeps env ours (NodeComes x n epoch heads) Acts rules_act g at comes grows in
          record { then = p.then; more = p.more; offers = p.offers; ends = p.ends; front = p.front; nodes = p.nodes; letters = p.letters }
