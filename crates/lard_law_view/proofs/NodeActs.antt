-- What a node does by a rule, or for another node, is an act on one connection.
use Rattle.std.proofs.Common.{◌≡◌, ℕ, ◌-◌, Bool, false, cond, List, [], ◌++◌, map, Some, refl, sym, ap, ◌∙◌, subst, arith, inr}
use Rattle.std.specs.Prelude.{slice_set}
use Rattle.std.proofs.lemmas.List.Sums.{fold-append}
use Rattle.std.specs.List.{fold}
use Rattle.lard_law_view.specs.Prelude.{AreNumbered, AreOwn, Conn, Event, IsConnNumber, Job, Machine, Move, Node, NodeDeed, NodePart, NodeSetting, NodeState, NodeTurn, Out, Place, Rec, Recency, Row, Seen, answered_step, aside, conn, named_records, node_at, node_deed, node_does, node_gave, node_leaves, node_out, node_part, node_saying, node_timers, nothing_done, part_of, stands, timer_rows, with_node}
use Rattle.lard_law_view.specs.View as view
use Rattle.lard_law_view.proofs.Heads.{Begins}
use Rattle.lard_law_view.proofs.Nodes.{IsNodeDeed}
use Rattle.lard_law_view.proofs.Parts.{length-set, node-as-before, node-elsewhere, node-here, node-kept, node-mine, node-others, node-set}
use Rattle.lard_law_view.proofs.Saying.{NotedAt, notes-closing, notes-mine, own-first}
use Rattle.lard_law_view.proofs.Shapes.{HasJobs, IsPut, NoneLeaves, Shapes, move_of}
use Rattle.lard_law_view.proofs.Timers.{timer_rows-same}
use Rattle.lard_law_view.proofs.Turned.{IsSaid, notes-in, said-in}
use Rattle.lard_law_view.proofs.Works.{all-append}
use Rattle.lard_history.proofs.Each.{Each, Each-append}
use Rattle.lard_history.proofs.Seeing.{by_number, same_number}
use Rattle.lard_rules.specs.Node.{Drops, Says, Does}
use Rattle.lard_rules.specs.NodePlace as place
use Rattle.lard_law_view.proofs.OwnRecords.{behind}

-- ---- what a node keeps is put back

module _ (m : Machine) (n : ℕ) (s t : NodeState) (at : node_at m.nodes n ≡ Some s) where
  jobs-put : AreNumbered t.disk → HasJobs m → HasJobs (record m { nodes = slice_set m.nodes (n - 1) t })
  jobs-put of jobs k u is = by_number (AreNumbered u.disk) k n
      (λ same.
      let one : Some t ≡ Some u = sym (node-set m.nodes n s t at) ∙ ap (node_at (slice_set m.nodes (n - 1) t)) (sym same) ∙ is in
      let e : t ≡ u = cc in subst (λ (x : NodeState). AreNumbered x.disk) e of)
      (λ other. jobs k u (sym (node-others m.nodes n k s t at other) ∙ is))

  remain-put : node_leaves t ≡ node_leaves s → NoneLeaves m → NoneLeaves (record m { nodes = slice_set m.nodes (n - 1) t })
  remain-put same none k u is = by_number (node_leaves u ≡ false) k n
      (λ here.
      let one : Some t ≡ Some u = sym (node-set m.nodes n s t at) ∙ ap (node_at (slice_set m.nodes (n - 1) t)) (sym here) ∙ is in
      let e : t ≡ u = cc in ap (λ (x : NodeState). node_leaves x) (sym e) ∙ same ∙ none n s at)
      (λ other. none k u (sym (node-others m.nodes n k s t at other) ∙ is))

  pub node-put : AreNumbered t.disk → node_leaves t ≡ node_leaves s → IsPut m (record m { nodes = slice_set m.nodes (n - 1) t })
  node-put of same = record {
    config = refl;
    files = refl;
    net = refl;
    journal = refl;
    events = refl;
    answered = refl;
    now = refl;
    nodes = length-set m.nodes (n - 1) t;
    jobs = jobs-put of;
    remain = remain-put same;
  }

-- Node n acts on connection c, in the step of this event.
module _ (m : Machine) (P : Conn → Move → Type 0) (Q : Event → Machine → Type 0) (shapes : Shapes m P Q) (e : Event) (c : ℕ) (heads : List Seen) (number : IsConnNumber c) (n : ℕ) (begins : Begins m e (Node n) c heads)
    (own : AreOwn e (behind e)) (s : NodeState) (at : node_at m.nodes n ≡ Some s) where
  -- what the node keeps of connections is as before
  stands-acts : (t : NodeState) (o : Out) (ns : List Rec) → named_records o.notes ≡ ns → AreNumbered t.disk → node_leaves t ≡ node_leaves s → ((q : ℕ) → node_part t q ≡ node_part s q)
      → IsSaid (Node n) c o.notes o.segments o.gave o.messages o.answered → o.timers ≡ [] → P (conn m c) (move_of (Node n) heads ns o (conn m c).part) → Q e (node_gave m e (behind e) n (t, o))
  unfolding conn
  stands-acts t o ns names jobs leaves same of none does = shapes.one (record m { nodes = slice_set m.nodes (n - 1) t }) e (Node n) o c heads ns (part_of m c)
      (record {
        put = node-put m n s t at jobs leaves;
        number = number;
        begins = begins;
        said = said-in (Node n) c o.notes o.segments o.gave o.messages o.answered of;
        first = own-first e (Node n) c o.notes tt own (notes-in (Node n) c o.notes of.notes);
        closes = inr (notes-closing (Node n) c o.notes of.notes);
        notes = λ net. notes-mine (Node n) c net o.notes (notes-in (Node n) c o.notes of.notes) ∙ ap (map Row) names;
        timers = none ∙ sym (timer_rows-same (Node n) c (part_of m c));
        mine = node-as-before m n s t at c (same c);
        others = λ q other. node-as-before m n s t at q (same q);
      }) does

  -- what it keeps of connection c is put back
  does-acts : (t : NodeState) (p : NodePart) (o : Out) (ns : List Rec) → named_records o.notes ≡ ns → AreNumbered t.disk → node_leaves t ≡ node_leaves s → ((q : ℕ) → node_part t q ≡ node_part (place.node_put s c p) q)
      → IsSaid (Node n) c o.notes o.segments o.gave o.messages o.answered → o.timers ≡ node_timers n c (node_part s c) p
      → P (conn m c) (move_of (Node n) heads ns o (with_node (conn m c).part n p)) → Q e (node_gave m e (behind e) n (t, o))
  unfolding conn timer_rows
  does-acts t p o ns names jobs leaves same of timers does =
      let here : view.node_put_back (part_of m c).nodes n p n ≡ p = ap (λ b. cond b p ((part_of m c).nodes n)) (same_number n) in
      shapes.one (record m { nodes = slice_set m.nodes (n - 1) t }) e (Node n) o c heads ns (with_node (part_of m c) n p)
      (record {
        put = node-put m n s t at jobs leaves;
        number = number;
        begins = begins;
        said = said-in (Node n) c o.notes o.segments o.gave o.messages o.answered of;
        first = own-first e (Node n) c o.notes tt own (notes-in (Node n) c o.notes of.notes);
        closes = inr (notes-closing (Node n) c o.notes of.notes);
        notes = λ net. notes-mine (Node n) c net o.notes (notes-in (Node n) c o.notes of.notes) ∙ ap (map Row) names;
        timers = timers ∙ (λ i. node_timers n c (sym (node-kept m n s c at) i) (sym here i));
        mine = node-mine m n s t at c p (same c ∙ node-here s c p);
        others = λ q other. node-as-before m n s t at q (same q ∙ node-elsewhere s c q p other);
      }) does

  -- ---- a rule of the connection, behind these records, where the cache and the disk are so

  module _ (fs : List Rec) (noted : Each (NotedAt (Node n) c) fs) (counted : (k : ℕ) → fold answered_step k fs ≡ k) (names : (rs : List Rec) → named_records (fs ++ rs) ≡ fs ++ named_records rs)
      (cache : Recency) (disk : List Job) (jobs : AreNumbered disk) where
    abbrev t : NodeState
    t = record s { cache = cache; disk = disk }

    abbrev pub with_firsts : NodeState × Out → NodeState × Out
    with_firsts x = (x.0, record x.1 { notes = fs ++ x.1.notes })

    abbrev pub first_in : Move → Move
    first_in v = record v { said = record v.said { notes = fs ++ v.said.notes } }

    firsts-said : (ns : List Rec) (ss : List (Place × List ℕ)) (gs : List Rec) (ms : List (Place × List ℕ)) (answered : ℕ) → IsSaid (Node n) c ns ss gs ms answered → IsSaid (Node n) c (fs ++ ns) ss gs ms answered
    firsts-said ns ss gs ms answered of = record {
      notes = Each-append (NotedAt (Node n) c) fs ns noted of.notes;
      segments = of.segments;
      gave = of.gave;
      messages = of.messages;
      counted = λ k. fold-append answered_step k fs ns ∙ ap (λ j. fold answered_step j ns) (counted k) ∙ of.counted k;
    }

    -- nothing that is kept of connections changes
    pub aside-acts : (u : NodeTurn) → IsSaid (Node n) c u.notes [] [] u.messages 0 → AreNumbered u.jobs
        → P (conn m c) (stands (conn m c) (Node n) heads (record { notes = fs ++ named_records u.notes; segments = []; gave = []; messages = u.messages })) → Q e (node_gave m e (behind e) n (with_firsts (aside t u)))
    aside-acts u of more does = stands-acts (place.stores_told t u) (record { notes = fs ++ u.notes; segments = []; gave = []; messages = u.messages; timers = []; answered = 0 }) (fs ++ named_records u.notes)
        (names u.notes) (all-append (λ (job : Job). IsConnNumber job.c) disk u.jobs jobs more) refl (λ q. refl) (firsts-said u.notes [] [] u.messages 0 of) refl does

    pub deed-acts : (k : NodeSetting) (deed : NodeDeed) → k.n ≡ n → IsNodeDeed n c (node_part s c) deed → P (conn m c) (first_in (node_does (conn m c) n heads deed))
        → Q e (node_gave m e (behind e) n (with_firsts (node_deed k t c deed)))
    deed-acts k Drops same of does = stands-acts t (record nothing_done { notes = fs ++ [] }) (fs ++ []) (names []) jobs refl (λ q. refl)
        (firsts-said [] [] [] [] 0 (record { notes = tt; segments = tt; gave = tt; messages = tt; counted = λ n. omega arith })) refl does
    deed-acts k (Says messages) same of does = aside-acts (node_saying messages) (record { notes = tt; segments = tt; gave = tt; messages = of; counted = λ n. omega arith }) tt does
    deed-acts k (Does x) same of does =
        does-acts (place.stores_told (place.node_put t c x.0) x.1) x.0 (record (node_out k.n c (node_part s c) x.0 x.1) { notes = fs ++ x.1.notes }) (fs ++ named_records x.1.notes)
        (names x.1.notes) (all-append (λ (job : Job). IsConnNumber job.c) disk x.1.jobs jobs of.0.1) refl (λ q. refl) (firsts-said x.1.notes x.1.segments x.1.gave x.1.messages x.1.answered of.0.0)
        (ap (λ i. node_timers i c (node_part s c) x.0) same) does
