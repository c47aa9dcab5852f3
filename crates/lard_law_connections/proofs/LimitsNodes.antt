-- What a node does leaves a connection counted.
use Rattle.std.proofs.Common.{◌≡◌, ◌≢◌, ◌⊎◌, ◌≤◌, ◌-◌, ℕ, true, List, [], map, Option, Some, None, inl, inr, ⊎_elim, refl, sym, ◌∙◌, subst, arith}
use Rattle.lard_law_view.specs.Prelude.{BackRow, Conn, ControlBlock, Ending, EndpointParts, Front, FrontConn, FrontRow, IsNodeEnv, Move, Node, NodeDeed, NodeEnv, NodeGets, NodePart, Offered, Place, Progress, Rec, Seen, ServeEnv, Setting, Stay, Turn, Work, after_timer, again_sent, came_for, come_progress, consuming, gives_back, goes_on, gone, kept_after, kept_back, kept_refused, letter, named_records, node_begins, node_does, node_put_back, node_rule, node_saying, offer_answer, on_segment, read_progress, reads_batch, refused_sent, serving, serving_ready_of, serving_settled, spoken, state_of, tagged, taken_sent, tale_at, timed, told_kind, turn_back, turn_by, with_work, without, work_of}
use Rattle.lard_base.specs.declared.place.TimerKind.TheVariants as timer
use Rattle.lard_law_connections.specs.LimitsCounts.{BackCounts, IsWithinStream, FrontCounts, FrontStageCounts, LetterCounts, Served, served_by_tale}
use Rattle.lard_law_connections.proofs.LimitsFronts.{offered-now, past-counts}
use Rattle.lard_law_connections.proofs.LimitsMoves.{IsLimited, MoveCounts, idle-counts, node-letters}
use Rattle.lard_law_connections.proofs.LimitsRows.{CountsBy, IsMute, IsMuteSeen, after_all, named-counts}
use Rattle.lard_law_connections.proofs.LimitsServing.{EndCounts, IsServing, TurnCounts, answered-serving, begins-serving, ended-serving, noted-mute, reads-within, reblocked, settled-counts, spoken-counts}
use Rattle.lard_law_connections.proofs.LimitsWorking.{IsStart, KeptByServing, batch-state, came-so, goes-so, tagged-so}
use Rattle.lard_law_connections.specs.Places.{HasEnded, IsComing, IsDecided, IsOffered, IsPast, IsThere, Offers, OthersArePast, Owning, Sits, StageSits, owning}
use Rattle.lard_law_connections.proofs.PlacesFrontMessages.{offer-says}
use Rattle.lard_law_connections.proofs.PlacesFrontRules.{has-each}
use Rattle.lard_law_connections.proofs.PlacesNodeRules.{by-node, not-decided, past-held}
use Rattle.lard_law_connections.proofs.PlacesTurns.{IsPlaced}
use Rattle.lard_law_view.proofs.EachNode.{NodeComes}
use Rattle.lard_law_view.proofs.EndpointSends.{ready-to}
use Rattle.lard_law_view.proofs.Parts.{put-each, put-same}
use Rattle.lard_handoff_back.specs.declared.row.BackConn.TheVariants as back
use Rattle.lard_handoff_back.specs.declared.table.Adopt.TheVariants.{New}
use Rattle.lard_handoff_front.specs.declared.row.FrontConn.TheVariants as stage
use Rattle.lard_history.proofs.Each.{Each, Each-append, Each-weaker}
use Rattle.lard_journal.specs.declared.rec.Rec.TheVariants as rec
use Rattle.lard_rules.proofs.NodeCases.{IsHereWith, IsOfItsEpoch, KeptByNode, Turned, node-keeps, of-here}
use Rattle.lard_rules.proofs.Totals.{segment-many, timer-many}
use Rattle.lard_rules.specs.Node.{Drops, Says, Does}
use Rattle.lard_rules.specs.declared.places.Ending.TheVariants as ending

-- ---- a stay counts on

start-mute : (r : Rec) → IsStart r → IsMute r
start-mute (rec.Hit n path) h = tt
start-mute (rec.Queued n m c r path) h = tt
start-mute _ h = absurd h

stay-counts : (env : ServeEnv) (u : Served) → KeptByServing env (IsServing env u)
stay-counts env u = record {
  notes = λ s rs starts h. noted-mute env u s rs (Each-weaker IsStart IsMute start-mute rs starts) h;
  reads = λ s n h. reblocked env u s (consuming s.block n) refl h;
  ends = λ s h. ended-serving env u s h;
  answers = λ s way v may h. answered-serving env u way v s (reads-within s may) h;
}

-- ---- one connection

module _ (k : Setting) (x : Conn) (at_place : IsPlaced x) (h : IsLimited k.stream x) where
  abbrev w : Served
  w = served_by_tale (tale_at x)

  abbrev nodes : ℕ → NodePart
  nodes = x.part.nodes

  abbrev own : Owning
  own = owning (tale_at x)

  -- No other place has the connection, and what was offered was decided.
  record IsHere (n e : ℕ) : Type 0 where
    front : (v : Served) → FrontCounts k.stream v x.part.front.row
    others : (v : Served) (m : ℕ) → m ≢ n → BackCounts k.stream v (nodes m).row
    offered : (m d : ℕ) → IsOffered m d x.part.front.row → (m ≡ n) × (d ≤ e)

  -- where the front end offered it to node n, or knows that it is there
  here-at : (f : FrontRow) (n : ℕ) → x.part.front.row ≡ Some f → (st : FrontConn) → f.stage ≡ st → ((v : Served) → FrontStageCounts k.stream v st) → OthersArePast n f.epoch.0 nodes
      → ((m d : ℕ) → Offers m d st → (m ≡ n) × (d ≤ f.epoch.0)) → IsHere n f.epoch.0
  here-at f n found st at counts others offers = record {
    front = λ v. subst (FrontCounts k.stream v) (sym found) (subst (FrontStageCounts k.stream v) (sym at) (counts v));
    others = λ v m other. past-counts k.stream v f.epoch.0 (nodes m).row (others m other);
    offered = λ m d offered. offers m d (subst (Offers m d) at (subst (IsOffered m d) found offered));
  }

  -- a node that has an endpoint of it
  has-here : (n : ℕ) (row : BackRow) (b : ControlBlock) → (nodes n).row ≡ Some row → row.stage ≡ back.Here b → (o : Option FrontRow) → x.part.front.row ≡ o → IsHere n row.epoch.0
  has-here n row b is at None found = let s : Sits own nodes None = subst (Sits own nodes) found at_place.sits in absurd (past-held 0 (nodes n).row row b is at (s.1 n))
  has-here n row b is at (Some f) found = go f.stage refl (let s : Sits own nodes (Some f) = subst (Sits own nodes) found at_place.sits in s.0) where
    no : (e : ℕ) → IsPast e (nodes n).row → ⊥
    no e past = past-held e (nodes n).row row b is at past

    there : (m : ℕ) → IsThere m f.epoch.0 own (nodes n).row → IsHere n f.epoch.0 → IsHere n row.epoch.0
    there m t here = let same : IsThere m f.epoch.0 own (Some row) = subst (IsThere m f.epoch.0 own) is t in subst (IsHere n) (sym same.0) here

    go : (st : FrontConn) → f.stage ≡ st → StageSits f.epoch.0 own nodes st → IsHere n row.epoch.0
    go (stage.Held c) e s = absurd (no f.epoch.0 (s.1.1 n))
    go (stage.Waiting c) e s = absurd (no f.epoch.0 (s.1.1 n))
    go stage.Lent e s = absurd s
    go (stage.Offering m d) e s = by-node m n (IsHere n row.epoch.0)
        (λ same. ⊎_elim
        (λ (coming : IsComing f.epoch.0 own (nodes m).row). absurd (no f.epoch.0 (subst (λ (j : ℕ). IsPast f.epoch.0 (nodes j).row) (sym same) coming.2)))
        (λ (t : IsThere m f.epoch.0 own (nodes m).row). there m (subst (λ (j : ℕ). IsThere m f.epoch.0 own (nodes j).row) (sym same) t)
        (here-at f n found (stage.Offering m d) e (λ v. tt) (subst (λ (j : ℕ). OthersArePast j f.epoch.0 nodes) (sym same) s.2) (λ i g o. (sym o.0 ∙ sym same, omega (arith, o.1, s.1))))) s.3)
        (λ other. absurd (no f.epoch.0 (s.2 n other)))
    go (stage.Moved m d) e s = by-node m n (IsHere n row.epoch.0)
        (λ same. there m (subst (λ (j : ℕ). IsThere m f.epoch.0 own (nodes j).row) (sym same) s.3)
        (here-at f n found (stage.Moved m d) e (λ v. tt) (subst (λ (j : ℕ). OthersArePast j f.epoch.0 nodes) (sym same) s.2) (λ i g o. absurd o)))
        (λ other. absurd (no f.epoch.0 (s.2 n other)))
    go (stage.Closed last) e s = absurd (no f.epoch.0 (s.1.1 n))

  -- so it is of the endpoint that is here, which counts what was served
  has-it : (n e : ℕ) (b : ControlBlock) (s : Stay) → IsHereWith e (nodes n) b s → IsHere n e × IsWithinStream k.stream w b.send.total
  has-it n e b s at = (
    subst (IsHere n) at.epoch_is (has-here n at.row b at.found at.staged x.part.front.row refl),
    of-here (λ q o. BackCounts k.stream w q) e (nodes n) b s at (h.counted.nodes n),
  )

  -- ---- what a node does

  module _ (n epoch : ℕ) (env : NodeEnv) (is : IsNodeEnv k x.c n epoch env) (heads : List Seen) (seen : Each IsMuteSeen heads) where
    abbrev ours : NodePart
    ours = x.part.nodes n

    abbrev Stays : NodeDeed → Type 0
    Stays d = MoveCounts k.stream x (node_does x n heads d)

    dropped : Stays Drops
    dropped = idle-counts k.stream x (node_does x n heads Drops) (record { heads = seen; notes = tt; front = h.counted.front; nodes = h.counted.nodes; letters = tt })

    says : (ms : List (Place × List ℕ)) → Stays (Says ms)
    says ms = idle-counts k.stream x (node_does x n heads (Says ms))
        (record { heads = seen; notes = tt; front = h.counted.front; nodes = h.counted.nodes; letters = node-letters k.stream w x.part n ms })

    own-turn : (u : Served) (given : Ending × Turn) → TurnCounts env.serve.stream env.serve.c u given → TurnCounts k.stream x.c u given
    own-turn u given t = subst (λ (c : ℕ). TurnCounts k.stream c u given) is.number (subst (λ (m : ℕ). TurnCounts m env.serve.c u given) is.stream t)

    row-counts : (v : Served) (p : NodePart) (k_work : Work) (e : Ending) → EndCounts k.stream v e → BackCounts k.stream v (kept_after env p k_work e).row
    row-counts v p k_work (ending.Here b count) c = c
    row-counts v p k_work (ending.Over last) c = tt

    row-decided : (p : NodePart) (k_work : Work) (e : Ending) (d : ℕ) → d ≤ env.epoch → IsDecided d (kept_after env p k_work e).row
    row-decided p k_work (ending.Here b count) d le = le
    row-decided p k_work (ending.Over last) d le = le

    -- a turn of the node that has it
    turn-limited : IsHere n env.epoch → (part : NodePart) (before : List (Place × List ℕ)) (work : Work) (given : Ending × Turn) → TurnCounts env.serve.stream env.serve.c w given
        → Stays (Does (kept_after env part work given.0, turn_by env before work given))
    turn-limited it part before work given counts =
        let q : NodePart = kept_after env part work given.0 in
        let v : Move = node_does x n heads (Does (q, turn_by env before work given)) in
        let t : TurnCounts k.stream x.c w given = own-turn w given counts in
        let called = named-counts k.stream x.c w given.1.notes t.told in
        let then : Served = after_all w (named_records given.1.notes) in
        let ends : EndCounts k.stream then given.0 = subst (λ (u : Served). EndCounts k.stream u given.0) (sym called.1) t.ends in
        record {
          heads = seen;
          notes = called.0;
          front = it.front then;
          nodes = put-each nodes n q (λ m r. BackCounts k.stream then r.row) (row-counts then part work given.0 ends) (λ m other. it.others then m other);
          old = inr (λ m d offered.
              let o = it.offered m d offered in
              inl (subst (λ (j : ℕ). IsDecided d (node_put_back nodes n q j).row) (sym o.0)
              (subst (λ (r : NodePart). IsDecided d r.row) (sym (put-same nodes n q)) (row-decided part work given.0 d o.1))));
          letters = Each-append (LetterCounts k.stream then v.part) (map (letter (Node n)) given.1.segments) (map (letter (Node n)) (turn_by env before work given).messages)
              (node-letters k.stream then v.part n given.1.segments) (node-letters k.stream then v.part n (turn_by env before work given).messages);
        }

    -- one that goes back
    backs-limited : IsHere n env.epoch → (part : NodePart) (before : List (Place × List ℕ)) (work : Work) → IsServing env.serve w work.service → Stays (gives_back env part before work)
    backs-limited it part before work serving =
        let q : NodePart = kept_back env part work in
        let v : Move = node_does x n heads (gives_back env part before work) in
        let told : CountsBy k.stream x.c w work.service.notes =
        subst (λ (c : ℕ). CountsBy k.stream c w work.service.notes) is.number (subst (λ (m : ℕ). CountsBy m env.serve.c w work.service.notes) is.stream serving.told) in
        let called = named-counts k.stream x.c w work.service.notes told in
        let then : Served = after_all w (named_records work.service.notes) in
        record {
          heads = seen;
          notes = called.0;
          front = it.front then;
          nodes = put-each nodes n q (λ m r. BackCounts k.stream then r.row) tt (λ m other. it.others then m other);
          old = inr (λ m d offered.
              let o = it.offered m d offered in
              inl (subst (λ (j : ℕ). IsDecided d (node_put_back nodes n q j).row) (sym o.0) (subst (λ (r : NodePart). IsDecided d r.row) (sym (put-same nodes n q)) o.1)));
          letters = node-letters k.stream then v.part n (turn_back env before work).messages;
        }

    goes-limited : IsHere n env.epoch → (part : NodePart) (before : List (Place × List ℕ)) (work : Work) → IsServing env.serve w work.service
        → Stays (with_work env part before (goes_on env work))
    goes-limited it part before work serving =
        let done : Work = goes_on env work in
        turn-limited it part before done (serving_settled env.serve done.service)
        (settled-counts env.serve w done.service (goes-so env (IsServing env.serve w) (stay-counts env.serve w) work serving))

    turned-limited : IsHere n env.epoch → (part : NodePart) (work : Work) → IsServing env.serve w work.service → Turned Stays env part [] (goes_on env work)
    turned-limited it part work serving = (
      λ rests. goes-limited it part [] work serving,
      λ back. backs-limited it part [] (goes_on env work) (goes-so env (IsServing env.serve w) (stay-counts env.serve w) work serving),
    )

    -- with the endpoint that it has
    begins-here : (b d : ControlBlock) (count : ℕ) → d.send.total ≡ b.send.total → IsWithinStream k.stream w b.send.total → IsServing env.serve w (serving d count [])
    begins-here b d count same c = begins-serving env.serve w b d count same (subst (λ (m : ℕ). IsWithinStream m w b.send.total) (sym is.stream) c)

    -- ---- an Offer

    offered-here : (o : Option FrontRow) → x.part.front.row ≡ o → IsOffered n env.epoch o → IsHere n env.epoch
    offered-here None found offered = absurd offered
    offered-here (Some f) found offered = go f.stage refl offered where
      go : (st : FrontConn) → f.stage ≡ st → Offers n env.epoch st → IsHere n env.epoch
      go (stage.Offering m d) at offers =
          let s : Sits own nodes (Some f) = subst (Sits own nodes) found at_place.sits in
          let sits : StageSits f.epoch.0 own nodes (stage.Offering m d) = subst (StageSits f.epoch.0 own nodes) at s.0 in
          let now : f.epoch.0 ≡ env.epoch = sym sits.1 ∙ offers.1 in
          subst (IsHere n) now (here-at f n found (stage.Offering m d) at (λ v. tt) (subst (λ (j : ℕ). OthersArePast j f.epoch.0 nodes) offers.0 sits.2) (λ i g o. (sym o.0 ∙ offers.0, omega (arith, o.1, sits.1))))
      go (stage.Held b) at offers = absurd offers
      go (stage.Waiting b) at offers = absurd offers
      go stage.Lent at offers = absurd offers
      go (stage.Moved m d) at offers = absurd offers
      go (stage.Closed last) at offers = absurd offers

    -- that the node has not decided: it was offered to it, and counts what was served
    abbrev Counted : NodeGets → Type 0
    Counted (Offered parts) =
        (IsDecided env.epoch ours.row ⊎ IsOffered n env.epoch x.part.front.row)
        × (IsDecided env.epoch ours.row ⊎ HasEnded env.epoch x.part.front.row ⊎ IsWithinStream k.stream w (parts.una - 1))
    Counted _ = Unit {0}

    counted-of : (g : NodeGets) → NodeComes x n epoch heads g → Counted g
    counted-of (Offered parts) c = (
      subst (λ (e : ℕ). IsDecided e ours.row ⊎ IsOffered n e x.part.front.row) (sym is.epoch_is)
          (offer-says x at_place n epoch parts c.bytes c.was c.spells),
      subst (λ (e : ℕ). IsDecided e ours.row ⊎ HasEnded e x.part.front.row ⊎ IsWithinStream k.stream w (parts.una - 1)) (sym is.epoch_is)
          ((has-each (LetterCounts k.stream w x.part) (record { from = Front; to = Node n; bytes = c.bytes }) x.letters c.was h.counted.letters) _ c.spells),
    )
    counted-of _ c = tt

    begins-limited : (parts : EndpointParts) → Counted (Offered parts) → offer_answer env.epoch ours.row ≡ New
        → Stays (with_work env ours (taken_sent env) (goes_on env (state_of (reads_batch env true (node_begins env parts)))))
    begins-limited parts m new =
        let no : IsDecided env.epoch ours.row → ⊥ = not-decided env.epoch ours.row new in
        let offered : IsOffered n env.epoch x.part.front.row = ⊎_elim (λ (d : IsDecided env.epoch ours.row). absurd (no d))
        (λ (o : IsOffered n env.epoch x.part.front.row). o) m.0 in
        let counts : IsWithinStream k.stream w (parts.una - 1) = ⊎_elim (λ (d : IsDecided env.epoch ours.row). absurd (no d))
        (⊎_elim (λ (past : HasEnded env.epoch x.part.front.row). absurd (offered-now x at_place n env.epoch x.part.front.row refl offered past))
        (λ (c : IsWithinStream k.stream w (parts.una - 1)). c)) m.1 in
        let start : IsServing env.serve w (node_begins env parts).service =
        record { told = (tt, tt); counts = subst (λ (m : ℕ). IsWithinStream m w (parts.una - 1)) (sym is.stream) counts } in
        goes-limited (offered-here x.part.front.row refl offered) ours (taken_sent env) (state_of (reads_batch env true (node_begins env parts)))
        (batch-state env (IsServing env.serve w) (stay-counts env.serve w) true (node_begins env parts) refl start)

    -- ---- the rules

    gone-counts : (o : Option BackRow) → BackCounts k.stream w (gone o)
    gone-counts None = tt
    gone-counts (Some row) = tt

    came-serving : (f : Progress → Progress) (r : ℕ) (b : ControlBlock) (s : Stay) → IsWithinStream k.stream w b.send.total
        → IsServing env.serve w (came_for f r (work_of b s)).service
    came-serving f r b s c = came-so env (IsServing env.serve w) (stay-counts env.serve w) f r (work_of b s) (begins-here b b s.served refl c)

    rules_limited : KeptByNode env ours Counted Stays
    rules_limited = record {
      drops = dropped;
      hears = λ said b s m at.
          let it = has-it n env.epoch b s at in
          turned-limited it.0 ours (work_of (on_segment b said).1 s)
          (begins-here b (on_segment b said).1 s.served (segment-many b said) it.1);
      tags = λ number tags b s m at asked same count.
          let it = has-it n env.epoch b s at in
          turned-limited it.0 (record ours { kept = without timer.Ask 0 ours.kept }) (tagged env tags (work_of b s))
          (tagged-so env (IsServing env.serve w) (stay-counts env.serve w) tags (work_of b s) (begins-here b b s.served refl it.1));
      comes = λ from r b s m at wanted.
          let it = has-it n env.epoch b s at in
          turned-limited it.0 (record ours { fetches = without timer.Fetch r ours.fetches }) (came_for (come_progress from) r (work_of b s))
          (came-serving (come_progress from) r b s it.1);
      reads = λ r path b s m at.
          let it = has-it n env.epoch b s at in turned-limited it.0 ours (came_for read_progress r (work_of b s)) (came-serving read_progress r b s it.1);
      begins = λ parts m new may. begins-limited parts m new;
      takes_again = λ parts m again. says (taken_sent env);
      refuses = λ parts m refuse.
          let q : NodePart = kept_refused env ours in
          idle-counts k.stream x (node_does x n heads (Does (q, node_saying (refused_sent env)))) (record {
            heads = seen;
            notes = tt;
            front = h.counted.front;
            nodes = put-each nodes n q (λ m r. BackCounts k.stream w r.row) (h.counted.nodes n) (λ m other. h.counted.nodes m);
            letters = node-letters k.stream w (node_does x n heads (Does (q, node_saying (refused_sent env)))).part n (refused_sent env);
          });
      fires = λ b s m at.
          let it = has-it n env.epoch b s at in
          let before : List (Place × List ℕ) = serving_ready_of env.serve (after_timer b) (timed b) in
          turn-limited it.0 ours (again_sent ours) (work_of (after_timer b) s) (spoken env.serve (serving (after_timer b) s.served []) before)
          (spoken-counts env.serve w (serving (after_timer b) s.served []) before refl (ready-to env.serve (after_timer b) (timed b))
          (begins-here b (after_timer b) s.served (timer-many b) it.1));
      resends = λ m none. says (again_sent ours);
      ends = λ back m told was.
          let q : NodePart = record ours { row = gone ours.row; kept = without (told_kind back) 0 ours.kept } in
          idle-counts k.stream x (node_does x n heads (Does (q, node_saying []))) (record {
            heads = seen;
            notes = tt;
            front = h.counted.front;
            nodes = put-each nodes n q (λ m r. BackCounts k.stream w r.row) (gone-counts ours.row) (λ m other. h.counted.nodes m);
            letters = tt;
          });
      leaves = λ b s m at back.
          let it = has-it n env.epoch b s at in backs-limited it.0 ours [] (work_of b s) (begins-here b b s.served refl it.1);
    }

    pub rule-limited : (g : NodeGets) → IsOfItsEpoch env ours g → NodeComes x n epoch heads g → Stays (node_rule env ours g)
    rule-limited g at comes = node-keeps env ours Counted Stays rules_limited g at (counted-of g comes)
