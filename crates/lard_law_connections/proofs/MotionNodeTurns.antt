-- What each rule of a node makes of a connection's way.
use Rattle.std.proofs.Common.{◌≡◌, ◌≢◌, ◌⊎◌, ◌+◌, ◌≤◌, ◌<◌, ◌^◌, ◌==◌, max, nat_lt, nat_eq, ℕ, Bool, true, false, cond, List, [], ◌∷◌, ◌++◌, map, Option, Some, None, inl, inr, ⊎_elim, refl, sym, ap, ◌∙◌, subst, arith, eqb-true, eq-eqb}
use Rattle.std.proofs.lemmas.Bool.{both_ways, lt-ltb, ltb-true}
use Rattle.std.proofs.lemmas.List.{map-append}
use Rattle.lard_law_view.specs.Prelude.{Adopt, BackRow, Conn, ControlBlock, Ending, EndpointParts, Front, IsNodeEnv, Message, Move, Node, NodeDeed, NodeEnv, NodeGets, NodePart, NodeTurn, Offered, Place, Rec, Seen, Setting, Stay, TimerKind, Turn, Work, after_timer, again_sent, all_sent, came_for, come_progress, epoch_in, gives_back, goes_on, gone, is_no_node, kept_after, kept_back, kind_of, listed, named_records, node_does, node_offered, node_put_back, node_rule, node_saying, offer_answer, offered_by, on_segment, parts_of, read_progress, reset_count, rows_of, seen_in, serving, serving_ready_of, serving_settled, spelled_message, spoken, tagged, taken_sent, tale_at, timed, timer_rows, told_kind, turn_back, turn_by, with_work, without, work_of}
use Rattle.lard_base.specs.declared.place.TimerKind.TheVariants as timer
use Rattle.lard_law_connections.specs.Motion.{EachIsTold, NodeEnds, Says as SaysIt, above}
use Rattle.lard_law_connections.specs.MotionStory.{from_node, highest, node_gave_epoch, node_took, of_row, epoch_offered, picked}
use Rattle.lard_law_connections.proofs.MotionElsewhere.{AreNextUp, Helps}
use Rattle.lard_law_connections.proofs.MotionEpochs.{gave-last}
use Rattle.lard_law_connections.proofs.MotionPicking.{pick, pick-append, pick-none, pick-parts, pick-seen}
use Rattle.lard_law_connections.specs.Places.{Head, IsComing, IsDecided, IsEarlyEpoch, IsEven, IsOffered, Owning, owning}
use Rattle.lard_law_connections.proofs.PlacesHeads.{spelled-head}
use Rattle.lard_law_connections.proofs.PlacesLoops.{came-notes, goes-notes, settled-is, tagged-notes}
use Rattle.lard_law_connections.proofs.PlacesNodeRules.{Begins, begun-notes, begun_work, has-here, new-below, not-decided, plain-more, took_by}
use Rattle.lard_law_connections.proofs.PlacesRows.{IsPlain, plain-named}
use Rattle.lard_law_connections.proofs.PlacesTurns.{IsPlaced, never-refuses, stays-answer}
use Rattle.lard_law_view.specs.View.{sending}
use Rattle.lard_law_view.proofs.Fine.{IsItsOwn}
use Rattle.lard_law_view.proofs.Parts.{put-same}
use Rattle.lard_handoff_back.specs.declared.table.Adopt.TheVariants.{New, Again, Stale, Refuse}
use Rattle.lard_history.proofs.Each.{Each, Each-weaker}
use Rattle.lard_history.proofs.Seeing.{other_number, same_number}
use Rattle.lard_journal.specs.declared.rec.Rec.TheVariants as rec
use Rattle.lard_message.specs.declared.message.Body.TheVariants as body
use Rattle.lard_rules.proofs.NodeCases.{IsHereWith, IsOfItsEpoch, KeptByNode, Turned, node-keeps}
use Rattle.lard_rules.specs.Node.{Drops, Says, Does}
use Rattle.lard_rules.specs.declared.places.Ending.TheVariants as ending
use Rattle.lard_law_connections.proofs.MotionNodes.{At, IsFirst, IsOther, IsOfNodes, NodesGo, NodesKnown, max-none, nodes-go, other-at, quiet-at, seen-gave, seen-offers, seen-took}
use Rattle.lard_law_connections.proofs.PlacesWithNode.{offered-away, offered-coming, offered-new}
use Rattle.lard_law_connections.specs.Past.{GoesToNew, IsNewTo}

-- ---- plain notes take nothing

plain-took : (n : ℕ) (r : Rec) → IsPlain r → node_took n r ≡ None
plain-took n (rec.Took p d epoch) h = absurd h
plain-took n _ h = refl

plains-took : (n : ℕ) (rs : List Rec) → Each IsPlain rs → pick (node_took n) rs ≡ []
plains-took n rs h = pick-none (node_took n) rs (Each-weaker IsPlain (λ r. node_took n r ≡ None) (plain-took n) rs h)

-- ---- what is said of an end

says-before : (h : Head) (xs ys : List (List ℕ)) → SaysIt h ys → SaysIt h (xs ++ ys)
says-before h [] ys s = s
says-before h (x ∷ xs) ys s = inr (says-before h xs ys s)

says-behind : (h : Head) (xs ys : List (List ℕ)) → SaysIt h xs → SaysIt h (xs ++ ys)
says-behind h [] ys s = absurd s
says-behind h (x ∷ xs) ys s = ⊎_elim (λ e. inl e) (λ e. inr (says-behind h xs ys e)) s

-- anything but an Offer
abbrev pub IsNoOffer : NodeGets → Type 0
IsNoOffer (Offered parts) = ⊥
IsNoOffer _ = Unit {0}

-- ---- one node

module _ (k : Setting) (x : Conn) (at_place : IsPlaced x) (known : NodesKnown x) (n epoch : ℕ) (env : NodeEnv) (is : IsNodeEnv k x.c n epoch env) (heads : List Seen) (first : Each IsFirst heads)
    (others_heads : (m : ℕ) → m ≢ n → picked (epoch_offered m) heads ≡ []) where
  abbrev ours : NodePart
  ours = x.part.nodes n

  abbrev nodes : ℕ → NodePart
  nodes = x.part.nodes

  abbrev own : Owning
  own = owning (tale_at x)

  abbrev before : ℕ
  before = highest (picked (of_row (node_took n)) x.seen)

  abbrev pub Goes : NodeDeed → Type 0
  Goes d = Helps x (node_does x n heads d) → NodesGo k.nodes x (node_does x n heads d)

  -- of node n by itself, and of every other one
  by-own : (v : Move) → IsItsOwn x v → v.heads ≡ heads → v.place ≡ Node n → ((m : ℕ) → m ≢ n → v.part.nodes m ≡ nodes m) → At k.nodes x v n → NodesGo k.nodes x v
  by-own v mine seen place same at = nodes-go k.nodes x v (λ m. go m (m == n) refl) where
    go : (m : ℕ) (b : Bool) → (m == n) ≡ b → At k.nodes x v m
    go m true e = subst (At k.nodes x v) (sym (eqb-true m n e)) at
    go m false e =
        let other : m ≢ n = λ f. both_ways (m == n) e (eq-eqb m n f) in
        other-at k.nodes m x v mine known (subst (Each IsFirst) (sym seen) first) (subst (λ (hs : List Seen). picked (epoch_offered m) hs ≡ []) (sym seen) (others_heads m other))
        (subst (IsOther m) (sym place) (λ f. other (sym f))) (same m other)

  put-other : (q : NodePart) (m : ℕ) → m ≢ n → node_put_back nodes n q m ≡ nodes m
  put-other q m other = ap (λ b. cond b q (nodes m)) (other_number m n other)

  late-as : (o : Option BackRow) → ours.row ≡ o → IsOfNodes o
  late-as o e = subst IsOfNodes e (known.late n)

  -- ---- a turn of the node

  kept-epoch : (part : NodePart) (work : Work) (e : Ending) → epoch_in (kept_after env part work e) ≡ env.epoch
  kept-epoch part work (ending.Here b count) = refl
  kept-epoch part work (ending.Over last) = refl

  kept-late : (part : NodePart) (work : Work) (e : Ending) → IsEven env.epoch → IsOfNodes (kept_after env part work e).row
  kept-late part work (ending.Here b count) even = even
  kept-late part work (ending.Over last) even = even

  -- the last of its messages has this head
  says-last : (q : NodePart) (turn : NodeTurn) (msgs : List (Place × List ℕ)) (m : Message) → IsEarlyEpoch m.epoch.0 → turn.messages ≡ msgs ++ (Front, spelled_message m) ∷ []
      → SaysIt (record { kind = kind_of m.body; epoch = m.epoch.0 }) (picked (of_row (from_node n)) (seen_in x (node_does x n heads (Does (q, turn)))))
  says-last q turn msgs m early are =
      let v : Move = node_does x n heads (Does (q, turn)) in
      let end : List (Place × List ℕ) = (Front, spelled_message m) ∷ [] in
      let h : Head = record { kind = kind_of m.body; epoch = m.epoch.0 } in
      let bytes : List ℕ = spelled_message m in
      let one : pick (from_node n) (map (sending (Node n)) end) ≡ bytes ∷ [] = ap (λ b. listed (cond b (Some bytes) None) ++ []) (same_number n) in
      let small : m.epoch.0 < 2 ^ 16 = omega (arith, early) in
      let ends : SaysIt h (pick (from_node n) (map (sending (Node n)) end)) = subst (SaysIt h) (sym one) (inl (spelled-head m small)) in
      let both : SaysIt h (pick (from_node n) (map (sending (Node n)) (msgs ++ end))) =
      subst (λ (l : List Rec). SaysIt h (pick (from_node n) l)) (sym (map-append (sending (Node n)) msgs end))
      (subst (SaysIt h) (sym (pick-append (from_node n) (map (sending (Node n)) msgs) (map (sending (Node n)) end)))
      (says-before h (pick (from_node n) (map (sending (Node n)) msgs)) (pick (from_node n) (map (sending (Node n)) end)) ends)) in
      let told : SaysIt h (pick (from_node n) (map (sending (Node n)) turn.messages)) =
      subst (λ (l : List (Place × List ℕ)). SaysIt h (pick (from_node n) (map (sending (Node n)) l))) (sym are) both in
      let rows : SaysIt h (pick (from_node n) (rows_of x v)) = subst (SaysIt h) (sym (pick-parts (from_node n) x v))
      (says-behind h _ (pick (from_node n) (timer_rows (Node n) x.c x.part v.part)) (says-before h _ (pick (from_node n) (map (sending (Node n)) turn.messages)) told)) in
      subst (SaysIt h) (sym (pick-seen (from_node n) x v)) (says-before h (picked (of_row (from_node n)) heads) (pick (from_node n) (rows_of x v)) rows)

  -- it gives up what it has
  abbrev gave_it : List Rec
  gave_it = rec.Gave (Node env.n) env.serve.c (record { 0 = env.epoch }) ∷ []

  gave-is : pick (node_gave_epoch n) gave_it ≡ env.epoch ∷ []
  gave-is = ap (λ b. listed (cond b (Some env.epoch) None) ++ []) (ap (λ (m : ℕ). nat_eq m n) is.node ∙ same_number n)

  abbrev IsToldSo : NodePart → NodeTurn → Type 0
  IsToldSo q turn = let v : Move = node_does x n heads (Does (q, turn)) in IsItsOwn x v → NodeEnds n (seen_in x v)

  -- what it gives up is told
  gave-told : (part : NodePart) (before_sent : List (Place × List ℕ)) (work : Work) (given : Ending × Turn) → IsEarlyEpoch env.epoch → IsToldSo (kept_after env part work given.0) (turn_by env before_sent work given)
  gave-told part before_sent work (ending.Here b count, turn) early mine =
      let v : Move = node_does x n heads (Does (kept_after env part work (ending.Here b count), turn_by env before_sent work (ending.Here b count, turn))) in
      subst (λ (l : List ℕ). EachIsTold l (picked (of_row (from_node n)) (seen_in x v))) (sym (seen-gave n x v mine first [] refl)) tt
  gave-told part before_sent work (ending.Over last, turn) early mine =
      let given : Ending × Turn = (ending.Over last, turn) in
      let v : Move = node_does x n heads (Does (kept_after env part work given.0, turn_by env before_sent work given)) in
      let m : Message = record { c = env.serve.c; epoch = record { 0 = env.epoch }; body = body.Ended last.reason last.snd.0 last.rcv.0 (reset_count work.service.over) } in
      subst (λ (l : List ℕ). EachIsTold l (picked (of_row (from_node n)) (seen_in x v))) (sym (seen-gave n x v mine first (env.epoch ∷ []) gave-is))
      (inl (says-last (kept_after env part work given.0) (turn_by env before_sent work given) (all_sent env before_sent work) m early refl), tt)

  -- and what it gives back
  back-told : (part : NodePart) (before_sent : List (Place × List ℕ)) (work : Work) → IsEarlyEpoch env.epoch → IsToldSo (kept_back env part work) (turn_back env before_sent work)
  back-told part before_sent work early mine =
      let v : Move = node_does x n heads (gives_back env part before_sent work) in
      let m : Message = record { c = env.serve.c; epoch = record { 0 = env.epoch }; body = body.Give (parts_of work.service.block work.service.count) } in
      subst (λ (l : List ℕ). EachIsTold l (picked (of_row (from_node n)) (seen_in x v))) (sym (seen-gave n x v mine first (env.epoch ∷ []) gave-is))
      (inr (says-last (kept_back env part work) (turn_back env before_sent work) (all_sent env before_sent work) m early refl), tt)

  -- what it has is of this epoch
  does-go : (q : NodePart) (turn : NodeTurn) (takes : List ℕ) → epoch_in q ≡ env.epoch → IsOfNodes q.row → IsToldSo q turn → pick (node_took n) (named_records turn.notes) ≡ takes
      → (is_no_node k.nodes n ≡ false → takes ≡ above before (picked (epoch_offered n) heads)) → max before (highest takes) ≡ env.epoch
      → AreNextUp x (node_does x n heads (Does (q, turn))) takes → Goes (Does (q, turn))
  does-go q turn takes now late told took due then up help =
      let v : Move = node_does x n heads (Does (q, turn)) in
      by-own v help.own refl refl (put-other q) (record {
        takes = takes;
        takes_are = seen-took n x v help.own first takes took;
        due = λ there. due there ∙ ap (above before) (sym (seen-offers n x v help.own first (picked (epoch_offered n) heads) refl));
        ends = told help.own;
        up = up;
        then = then ∙ sym (ap epoch_in (put-same nodes n q) ∙ now);
        late = subst (λ (p : NodePart). IsOfNodes p.row) (sym (put-same nodes n q)) late;
      })

  turn-go : (part : NodePart) (before_sent : List (Place × List ℕ)) (work : Work) (given : Ending × Turn) (takes : List ℕ) → IsEven env.epoch → IsEarlyEpoch env.epoch → pick (node_took n) (named_records given.1.notes) ≡ takes
      → (is_no_node k.nodes n ≡ false → takes ≡ above before (picked (epoch_offered n) heads)) → max before (highest takes) ≡ env.epoch
      → AreNextUp x (node_does x n heads (Does (kept_after env part work given.0, turn_by env before_sent work given))) takes → Goes (Does (kept_after env part work given.0, turn_by env before_sent work given))
  turn-go part before_sent work given takes even early took due then up =
      does-go (kept_after env part work given.0) (turn_by env before_sent work given) takes (kept-epoch part work given.0) (kept-late part work given.0 even)
      (gave-told part before_sent work given early) took due then up

  -- ---- of one that is here

  -- its stay is of this epoch
  record IsHere : Type 0 where
    even : IsEven env.epoch
    early : IsEarlyEpoch env.epoch
    now : epoch_in ours ≡ env.epoch

  is-here : (b : ControlBlock) (s : Stay) → IsHereWith env.epoch ours b s → IsHere
  is-here b s at = let can = (has-here x at_place n env.epoch b s at).can in
      record { even = can.even; early = can.early; now = ap (λ (o : Option BackRow). epoch_in (record ours { row = o })) at.found ∙ at.epoch_is }

  -- ---- where no Offer comes to it, and nothing is taken

  module _ (none : picked (epoch_offered n) heads ≡ []) where
    stays-at : (v : Move) → IsItsOwn x v → v.heads ≡ heads → v.part.nodes n ≡ ours → pick (node_took n) v.said.notes ≡ [] → pick (node_gave_epoch n) v.said.gave ≡ [] → At k.nodes x v n
    stays-at v mine seen same took gave =
        quiet-at k.nodes n x v mine known (subst (Each IsFirst) (sym seen) first) (subst (λ (hs : List Seen). picked (epoch_offered n) hs ≡ []) (sym seen) none) took gave (ap epoch_in same) (subst (λ (p : NodePart). IsOfNodes p.row) (sym same) (known.late n))

    dropped : Goes Drops
    dropped help = by-own (node_does x n heads Drops) help.own refl refl (λ m other. refl) (stays-at (node_does x n heads Drops) help.own refl refl refl refl)

    says-go : (ms : List (Place × List ℕ)) → Goes (Says ms)
    says-go ms help = by-own (node_does x n heads (Says ms)) help.own refl refl (λ m other. refl) (stays-at (node_does x n heads (Says ms)) help.own refl refl refl refl)

    plain-go : IsHere → (part : NodePart) (before_sent : List (Place × List ℕ)) (work : Work) (given : Ending × Turn) → Each IsPlain given.1.notes → Goes (Does (kept_after env part work given.0, turn_by env before_sent work given))
    plain-go it part before_sent work given plain = turn-go part before_sent work given [] it.even it.early (plains-took n (named_records given.1.notes) (plain-named given.1.notes plain))
        (λ there. ap (above before) (sym none)) (max-none before ∙ known.highest_is n ∙ it.now) tt

    works-go : IsHere → (part : NodePart) (work : Work) → Each IsPlain work.service.notes → Goes (with_work env part [] (goes_on env work))
    works-go it part work plain =
        let w : Work = goes_on env work in
        let done = settled-is env.serve w.service in
        plain-go it part [] w (serving_settled env.serve w.service)
        (subst (Each IsPlain) (sym done.notes) (goes-notes (Each IsPlain) plain-more env work plain))

    back-go : IsHere → (part : NodePart) (work : Work) → Each IsPlain work.service.notes → Goes (gives_back env part [] work)
    back-go it part work plain = does-go (kept_back env part work) (turn_back env [] work) [] refl it.even (back-told part [] work it.early)
        (plains-took n (named_records work.service.notes) (plain-named work.service.notes plain))
        (λ there. ap (above before) (sym none)) (max-none before ∙ known.highest_is n ∙ it.now) tt

    -- it goes on, or goes back
    turns-go : IsHere → (part : NodePart) (work : Work) → Each IsPlain work.service.notes → Turned Goes env part [] (goes_on env work)
    turns-go it part work plain = (λ rests. works-go it part work plain, λ back. back-go it part (goes_on env work) (goes-notes (Each IsPlain) plain-more env work plain))

    -- its end is acknowledged
    gone-epoch : (o : Option BackRow) → epoch_in (record ours { row = gone o }) ≡ epoch_in (record ours { row = o })
    gone-epoch None = refl
    gone-epoch (Some row) = refl

    gone-late : (o : Option BackRow) → IsOfNodes o → IsOfNodes (gone o)
    gone-late None h = tt
    gone-late (Some row) h = h

    ends-go : (told : TimerKind) → Goes (Does (record ours { row = gone ours.row; kept = without told 0 ours.kept }, node_saying []))
    ends-go told help =
        let q : NodePart = record ours { row = gone ours.row; kept = without told 0 ours.kept } in
        let v : Move = node_does x n heads (Does (q, node_saying [])) in
        by-own v help.own refl refl (put-other q)
        (quiet-at k.nodes n x v help.own known first none refl refl (ap epoch_in (put-same nodes n q) ∙ gone-epoch ours.row)
        (subst (λ (p : NodePart). IsOfNodes p.row) (sym (put-same nodes n q)) (gone-late ours.row (known.late n))))

    rules_go : KeptByNode env ours IsNoOffer Goes
    rules_go = record {
      drops = dropped;
      hears = λ said b s m at. turns-go (is-here b s at) ours (work_of (on_segment b said).1 s) tt;
      tags = λ number tags b s m at asked same count. turns-go (is-here b s at) (record ours { kept = without timer.Ask 0 ours.kept })
          (tagged env tags (work_of b s)) (tagged-notes (Each IsPlain) plain-more env tags (work_of b s) tt);
      comes = λ from r b s m at wanted. turns-go (is-here b s at) (record ours { fetches = without timer.Fetch r ours.fetches })
          (came_for (come_progress from) r (work_of b s)) (came-notes (Each IsPlain) plain-more (come_progress from) r (work_of b s) tt);
      reads = λ r path b s m at. turns-go (is-here b s at) ours (came_for read_progress r (work_of b s))
          (came-notes (Each IsPlain) plain-more read_progress r (work_of b s) tt);
      begins = λ parts m new may. absurd m;
      takes_again = λ parts m again. absurd m;
      refuses = λ parts m refuse. absurd m;
      fires = λ b s m at. plain-go (is-here b s at) ours (again_sent ours) (work_of (after_timer b) s)
          (spoken env.serve (serving (after_timer b) s.served []) (serving_ready_of env.serve (after_timer b) (timed b))) tt;
      resends = λ m nobody. says-go (again_sent ours);
      ends = λ back m told was. ends-go (told_kind back);
      leaves = λ b s m at back. back-go (is-here b s at) ours (work_of b s) tt;
    }

    pub rule-goes : (g : NodeGets) → IsOfItsEpoch env ours g → IsNoOffer g → Goes (node_rule env ours g)
    rule-goes g at other = node-keeps env ours IsNoOffer Goes rules_go g at other

  -- ---- an Offer comes to it

  module _ (parts : EndpointParts) (comes : picked (epoch_offered n) heads ≡ env.epoch ∷ []) (said : IsDecided env.epoch ours.row ⊎ IsOffered n env.epoch x.part.front.row) where
    -- of an epoch that is not above what it had
    stale-at : (v : Move) → IsItsOwn x v → v.heads ≡ heads → v.part.nodes n ≡ ours → pick (node_took n) v.said.notes ≡ [] → pick (node_gave_epoch n) v.said.gave ≡ [] → nat_lt (epoch_in ours) env.epoch ≡ false → At k.nodes x v n
    stale-at v mine seen same took gave old =
        let firsts : Each IsFirst v.heads = subst (Each IsFirst) (sym seen) first in
        let offers : picked (epoch_offered n) (seen_in x v) ≡ env.epoch ∷ [] = seen-offers n x v mine firsts (env.epoch ∷ []) (ap (picked (epoch_offered n)) seen ∙ comes) in
        record {
          takes = [];
          takes_are = seen-took n x v mine firsts [] took;
          due = λ there. sym (ap (above before) offers ∙ ap (λ (b : Bool). cond b (env.epoch ∷ []) []) (ap (λ (h : ℕ). nat_lt h env.epoch) (known.highest_is n) ∙ old));
          ends = subst (λ (l : List ℕ). EachIsTold l (picked (of_row (from_node n)) (seen_in x v))) (sym (seen-gave n x v mine firsts [] gave)) tt;
          up = tt;
          then = max-none before ∙ known.highest_is n ∙ sym (ap epoch_in same);
          late = subst (λ (p : NodePart). IsOfNodes p.row) (sym same) (known.late n);
        }

    old-drops : nat_lt (epoch_in ours) env.epoch ≡ false → Goes Drops
    old-drops old help = by-own (node_does x n heads Drops) help.own refl refl (λ m other. refl) (stale-at (node_does x n heads Drops) help.own refl refl refl refl old)

    old-says : nat_lt (epoch_in ours) env.epoch ≡ false → (ms : List (Place × List ℕ)) → Goes (Says ms)
    old-says old ms help = by-own (node_does x n heads (Says ms)) help.own refl refl (λ m other. refl) (stale-at (node_does x n heads (Says ms)) help.own refl refl refl refl old)

    -- where it is new it is offered, in an early epoch of nodes
    abbrev IsAwayNow : Type 0
    IsAwayNow = IsEven env.epoch × IsEarlyEpoch env.epoch

    undecided-offered : (IsDecided env.epoch ours.row → ⊥) → IsOffered n env.epoch x.part.front.row
    undecided-offered other = ⊎_elim (λ (d : IsDecided env.epoch ours.row). absurd (other d)) (λ (o : IsOffered n env.epoch x.part.front.row). o) said

    undecided-away : (IsDecided env.epoch ours.row → ⊥) → IsAwayNow
    undecided-away other = offered-away x at_place n env.epoch (undecided-offered other)

    -- what the node had is of an earlier epoch, where the Offer is new
    below : (o : Option BackRow) → offer_answer env.epoch o ≡ New → IsAwayNow → epoch_in (record ours { row = o }) < env.epoch
    below None new away = away.0.1
    below (Some row) new away = new-below env.epoch row new

    -- the node takes it
    new-go : offer_answer env.epoch ours.row ≡ New → Goes (offered_by env parts ours New)
    new-go new =
        let fresh : IsDecided env.epoch ours.row → ⊥ = not-decided env.epoch ours.row new in
        let away : IsAwayNow = undecided-away fresh in
        let coming : IsComing env.epoch own ours.row = offered-coming x at_place n env.epoch (undecided-offered fresh) fresh in
        let work : Work = begun_work env parts in
        let given : Ending × Turn = serving_settled env.serve work.service in
        let all : Begins (took_by env) given.1.notes = begun-notes env parts in
        let takes : pick (node_took n) (named_records given.1.notes) ≡ env.epoch ∷ [] =
        ap (λ (l : List Rec). pick (node_took n) (named_records l)) all.1
        ∙ ap (λ b. listed (cond b (Some env.epoch) None) ++ pick (node_took n) (named_records all.0)) (ap (λ (m : ℕ). nat_eq m n) is.node ∙ same_number n)
        ∙ ap (λ (l : List ℕ). env.epoch ∷ l) (plains-took n (named_records all.0) (plain-named all.0 all.2)) in
        let over : before < env.epoch = let less : epoch_in ours < env.epoch = below ours.row new away in omega (arith, known.highest_is n, less) in
        turn-go ours (taken_sent env) work given (env.epoch ∷ []) away.0 away.1 takes
        (λ there. sym (ap (above before) comes ∙ ap (λ (b : Bool). cond b (env.epoch ∷ []) []) (lt-ltb before env.epoch over))) (omega (arith, over))
        (inl (sym coming.1 ∙ ap (λ (e : ℕ). e + 1) (sym (gave-last x at_place coming.0))), tt)

    -- where it is not, no stay of an earlier epoch is there: it goes to a node that is new to it
    not-below : GoesToNew x → (o : Option BackRow) → ours.row ≡ o → (offer_answer env.epoch o ≡ New → ⊥) → nat_lt (epoch_in (record ours { row = o })) env.epoch ≡ false
    not-below new None found other = absurd (other refl)
    not-below new (Some row) found other = go (nat_lt row.epoch.0 env.epoch) refl where
      go : (b : Bool) → nat_lt row.epoch.0 env.epoch ≡ b → b ≡ false
      go false e = refl
      go true e =
          let less : row.epoch.0 < env.epoch = ltb-true row.epoch.0 env.epoch e in
          let offered : IsOffered n env.epoch x.part.front.row =
          undecided-offered (λ d. let le : env.epoch ≤ row.epoch.0 = subst (IsDecided env.epoch) found d in omega (arith, le, less)) in
          let its : row.epoch.0 ≡ env.epoch = subst (IsNewTo env.epoch) found (offered-new x new n env.epoch offered) in
          absurd (omega (arith, its, less))

    by-answer : (a : Adopt) → offer_answer env.epoch ours.row ≡ a → Goes (offered_by env parts ours a)
    by-answer New new = new-go new
    by-answer Again again = λ help. old-says (not-below help.new ours.row refl (λ new. let no : Again ≡ New = sym again ∙ new in absurd cc)) (taken_sent env) help
    by-answer Stale stale = λ help. old-drops (not-below help.new ours.row refl (λ new. let no : Stale ≡ New = sym stale ∙ new in absurd cc)) help
    by-answer Refuse refuse = absurd (never-refuses env.leaving env.epoch ours.row ours.beside is.remains (at_place.unreturned.unrefused n)
        (stays-answer env.leaving env.epoch ours.row ours.beside is.remains (at_place.unreturned.unrefused n) ∙ refuse))

    pub offered-go : Goes (node_offered env ours parts)
    offered-go = subst (λ (a : Adopt). Goes (offered_by env parts ours a))
        (sym (stays-answer env.leaving env.epoch ours.row ours.beside is.remains (at_place.unreturned.unrefused n))) (by-answer (offer_answer env.epoch ours.row) refl)
