-- In every state what backs a response of a node, and what it has in hand, stands behind what told the node where the request is assigned.
use Rattle.std.proofs.Common.{◌≡◌, ◌≤◌, ◌+◌, ◌-◌, ◌==◌, ◌^◌, ℕ, Bool, true, false, cond, List, [], ◌++◌, Option, Some, None, Result, Ok, Err, refl, sym, ap, ◌∙◌, subst, append_assoc, eqb-true, ⊎_elim, length, inl}
use Rattle.std.specs.FinMap.{get-empty}
use Rattle.std.specs.Ordering.{nat_cmp}
use Rattle.std.specs.Prelude.{slice_set}
use Rattle.std.proofs.lemmas.List.Sums.{fold-append}
use Rattle.lard_base.proofs.Usable.{usable}
use Rattle.lard_law_view.specs.Prelude.{BackIn, BackRow, Body, Came, Config, Conn, ControlBlock, EachMay, EndpointParts, Event, FilesAt, Front, Has, IsConnNumber, IsNodeEnv, IsReached, Letter, Machine, Message, MsgFault, Node, NodeEnv, NodePart, NodeSetting, NodeState, Out, Packet, Place, Rec, Seen, Setting, SpellsMessage, Station, Stay, Tale, Was, assignments, assignments_step, back_held, batch_of, both_of, came_seen, config_check, conn, conn_of, decoded_message, file_at, here, is_tag_awaited, is_touched, leaves_at, letter_of, machine_start, machine_told, named_in, net_of, no_stays, node_at, node_env, node_gave, node_part, node_setting, node_step, offer_answer, own, packet_at, seen_on, setting_of, staying, tale_at, touched_step, wrote, wrote_step}
use Rattle.lard_base.specs.declared.event.Event.TheVariants as event
use Rattle.lard_laws.specs.Asks.{ask_tale}
use Rattle.lard_laws.proofs.AsksRuns.{each-told}
use Rattle.lard_laws.specs.BackingRequests.{IsFor}
use Rattle.lard_laws.specs.BackingState.{FetchesFor, LetterFor}
use Rattle.lard_laws.proofs.BackingRules.{each-backed}
use Rattle.lard_laws.specs.BackingTold.{TagHasCome}
use Rattle.lard_laws.proofs.BackingAssignments.{HasAssignment, first-assigned, last-assigned}
use Rattle.lard_laws.proofs.BackingElsewhere.{allows-still, stays-still}
use Rattle.lard_laws.proofs.BackingHeld.{StayHits, assigned-past, stay-more}
use Rattle.lard_laws.proofs.BackingHitting.{IsStill, MayHit, begins_by, stills-may}
use Rattle.lard_laws.proofs.BackingNodes.{hand-for}
use Rattle.lard_laws.proofs.BackingOffered.{IsAssignedWith, offered-for}
use Rattle.lard_laws.proofs.BackingTagged.{IsOfLast, tag-counts}
use Rattle.lard_laws.proofs.BackingTurns.{EachNamed, FirstIn, first-weaker, named-both, named-weaker}
use Rattle.lard_laws.proofs.BackingWalking.{BodyKnown, GetsKnown, StepHits, StepKnown, node-more, step-hits}
use Rattle.lard_law_connections.specs.BytesAgreement.{IsTruthful}
use Rattle.lard_law_connections.proofs.BytesClientMoves.{has-fair, open-at}
use Rattle.lard_law_connections.proofs.BytesFrontMessages.{opened-at}
use Rattle.lard_law_connections.proofs.BytesNodeRest.{front-opens}
use Rattle.lard_law_connections.proofs.BytesRuns.{states-truthful}
use Rattle.lard_law_connections.proofs.PlacesRuns.{each-placed}
use Rattle.lard_law_connections.proofs.PlacesTurns.{IsPlaced}
use Rattle.lard_law_connections.proofs.Calm.{IsCalm, first-calm, first_rows, last-calm, last_rows, told-journal}
use Rattle.lard_law_connections.proofs.Forms.{Comes, NodeStep, NodesStay, node-form}
use Rattle.lard_law_view.proofs.Carried.{IsOn, carried-keep, reached-viewed}
use Rattle.lard_law_view.proofs.Heads.{was}
use Rattle.lard_law_view.proofs.Naming.{Names, decoded-names}
use Rattle.lard_law_view.proofs.Parts.{node-kept, node-others, node-set}
use Rattle.lard_law_view.proofs.Runs.{of-nodes}
use Rattle.lard_laws.specs.WaysState.{GoesItsWay, marks_at}
use Rattle.lard_laws.specs.Ways.{WayMarks, way_marks}
use Rattle.lard_laws.proofs.WaysBacked.{RowTook, TookIn}
use Rattle.lard_laws.proofs.WaysEarlier.{each-served}
use Rattle.lard_laws.proofs.WaysRuns.{each-guarded, marks-own}
use Rattle.lard_handoff_back.specs.declared.table.Adopt.TheVariants.{New}
use Rattle.lard_history.proofs.Each.{each_append}
use Rattle.lard_history.proofs.Lifting.{tale-own}
use Rattle.lard_history.proofs.Seeing.{by_number, one-mine, own-append}
use Rattle.lard_history.proofs.Tales.{touched-tale}
use Rattle.lard_message.specs.declared.message.Body.TheVariants as body
use Rattle.lard_rules.specs.declared.node.BackIn.TheVariants as input
use Rattle.lard_law_view.proofs.OwnRecords.{behind}

-- ---- what is in hand was taken

row-took : (n c epoch : ℕ) (past : List Seen) (o : Option BackRow) (t : Option Stay) (y : ControlBlock × Stay) → both_of (staying epoch o) t ≡ Some y → RowTook n c past o → TookIn n c past epoch
row-took n c epoch past None t y is h = let no : None ≡ Some y = is in absurd (let f : ⊥ = cc in f)
row-took n c epoch past (Some row) t y is h = go (row.epoch.0 == epoch) refl is where
  go : (b : Bool) → (row.epoch.0 == epoch) ≡ b → both_of (cond b (back_held row.stage) None) t ≡ Some y → TookIn n c past epoch
  go true e f = subst (TookIn n c past) (eqb-true row.epoch.0 epoch e) h
  go false e f = let no : None ≡ Some y = f in absurd (let g : ⊥ = cc in g)

-- ---- what is known of a message that comes in a state

-- it is for its path, and was assigned for this Ask, by what these records say, and by what a node notes behind them
abbrev MeantBy : FilesAt → ℕ → ℕ → ℕ → List Rec → Option ℕ → ℕ → List ℕ → Type 0
MeantBy files n c epoch J ask r path = IsFor files (wrote J c) r path × HasAssignment files (wrote J c) (J ++ begins_by n c epoch ask) c r ask

-- or by these records alone, for an Ask
abbrev MeantFor : FilesAt → ℕ → List Rec → ℕ → ℕ → List ℕ → Type 0
MeantFor files c J number r path = IsFor files (wrote J c) r path × HasAssignment files (wrote J c) J c r (Some number)

module _ (m : Machine) (checked : config_check m.config ≡ Ok tt) (reached : IsReached m.config m.files m) where
  small : m.config.stream ≤ 2 ^ 30
  small = (usable m.config checked).stream

  abbrev files : FilesAt
  files = file_at m.files

  abbrev k : Setting
  k = setting_of m

  -- a connection that the schedule did not touch
  calm : (c : ℕ) → is_touched m.journal c ≡ false → (tale_at (conn m c)).touched ≡ false
  unfolding conn
  calm c u = ap (λ (t : Tale). t.touched) (sym (tale-own m.journal c)) ∙ sym (touched-tale m.journal c) ∙ u

  -- what is marked of a connection is marked by the journal
  marked-own : (c : ℕ) → marks_at (conn m c) ≡ way_marks m.journal c
  unfolding conn
  marked-own c = marks-own files m.journal c

  module _ (i : ℕ) (s : NodeState) (at : node_at m.nodes i ≡ Some s) where
    abbrev its : NodeSetting
    its = node_setting m i

    part-is : (c : ℕ) → (conn m c).part.nodes i ≡ node_part s c
    unfolding conn
    part-is c = node-kept m i s c at

    row-there : (c : ℕ) → RowTook i c (own c m.journal) (node_part s c).row
    unfolding conn
    row-there c = subst (λ (p : NodePart). RowTook i c (own c m.journal) p.row) (part-is c) ((each-served m.config m.files m reached c).0 i).row

    module _ (c epoch : ℕ) (number : IsConnNumber c) (bytes : List ℕ) (sent : Was (conn m c) Front (Node i) bytes) where
      abbrev x : Conn
      x = conn m c

      abbrev env : NodeEnv
      env = node_env its s c epoch

      is-env : IsNodeEnv k c i epoch env
      is-env = record { place = refl; number = refl; files = refl; stream = refl; node = refl; epoch_is = refl; leaves = ap leaves_at (sym at); remains = (reached-viewed m.config m.files m reached).remain i s at }

      placed : IsPlaced x
      placed = each-placed m.config m.files checked m reached c

      truthful : is_touched m.journal c ≡ false → IsTruthful files x
      truthful u = states-truthful m.config m.files checked m reached c (calm c u)

      ways : is_touched m.journal c ≡ false → GoesItsWay files x
      ways u = (each-guarded m.config m.files checked m reached c).0 (calm c u)

      opened : is_touched m.journal c ≡ false → (t : Station) × (x.part.station ≡ Some t)
      opened u = opened-at files x (truthful u) (front-opens x i bytes sent)

      -- an Offer
      offer-known : (parts : EndpointParts) → SpellsMessage c epoch (body.Offer parts) bytes → offer_answer epoch (node_part s c).row ≡ New → is_touched m.journal c ≡ false
          → FirstIn files (IsAssignedWith files (way_marks m.journal c)) (parts.served + 1) (batch_of 8 parts.unread)
      unfolding conn
      offer-known parts spells new u =
          let h = truthful u in
          let o = opened u in
          subst (λ (w : WayMarks). FirstIn files (IsAssignedWith files w) (parts.served + 1) (batch_of 8 parts.unread)) (marked-own c)
          (offered-for k small x o.0 o.1 h.talk h.pend (open-at files x o.0 o.1 h) i epoch env is-env parts bytes spells sent placed number (ways u) (subst (λ (p : NodePart). offer_answer epoch p.row ≡ New) (sym (part-is c)) new))

      -- the last that were assigned were assigned for the last Ask
      last-known : (number_of r : ℕ) (path : List ℕ) → number_of ≡ (ask_tale x.c x.seen).done.last → IsOfLast files (marks_at x) (length (ask_tale x.c x.seen).done.nodes) r path → HasAssignment files (wrote m.journal c) m.journal c r (Some number_of)
      unfolding conn
      last-known number_of r path last low =
          let all = subst (λ (w : WayMarks). IsOfLast files w (length (ask_tale x.c x.seen).done.nodes) r path) (marked-own c) low in
          last-assigned files (wrote m.journal c) m.journal c r number_of last all.0 all.1

      -- a Tag that counts
      tag-known : (number_of : ℕ) (nodes : List ℕ) → SpellsMessage c epoch (body.Tag number_of nodes) bytes → (y : ControlBlock × Stay) → here epoch (node_part s c) ≡ Some y → is_tag_awaited env number_of nodes (node_part s c) y.1 ≡ true → is_touched m.journal c ≡ false
          → EachNamed files (MeantFor files c m.journal number_of) (y.1.served + 1) y.1.batch
      unfolding conn
      tag-known number_of nodes spells y held awaited u =
          let h = truthful u in
          let o = opened u in
          let there : here env.epoch (x.part.nodes i) ≡ Some y = subst (λ (p : NodePart). here epoch p ≡ Some y) (sym (part-is c)) held in
          let counted = tag-counts k small x o.0 o.1 h.talk h.pend (open-at files x o.0 o.1 h) i epoch env is-env placed (ways u) (each-told m.config m.files checked m reached c) number_of nodes bytes spells sent y there
          (subst (λ (p : NodePart). is_tag_awaited env number_of nodes p y.1 ≡ true) (sym (part-is c)) awaited) in
          named-both files (IsFor files (wrote m.journal c)) (λ r path. HasAssignment files (wrote m.journal c) m.journal c r (Some number_of)) (y.1.served + 1) y.1.batch
          (subst (λ (w : WayMarks). EachNamed files (IsFor files w.wrote) (y.1.served + 1) y.1.batch) (marked-own c)
          (hand-for k small x o.0 o.1 h.talk h.pend (open-at files x o.0 o.1 h) i epoch env is-env placed y there))
          (named-weaker files (IsOfLast files (marks_at x) (length (ask_tale x.c x.seen).done.nodes)) (λ r path. HasAssignment files (wrote m.journal c) m.journal c r (Some number_of)) (λ r path w. last-known number_of r path counted.0 w) (y.1.served + 1) y.1.batch counted.1)

    -- a Fetch is of another node
    other-asks : (c : ℕ) → IsConnNumber c → (n : ℕ) (bytes : List ℕ) → Was (conn m c) (Node n) (Node i) bytes → (epoch r : ℕ) (path : List ℕ) → SpellsMessage c epoch (body.Fetch r path) bytes → is_touched m.journal c ≡ false → n ≡ i → ⊥
    other-asks c number n bytes sent epoch r path spells u same =
        let old : FetchesFor files (conn m c) = (each-backed m.config m.files checked m reached c).0 (calm c u) in
        let says = (has-fair (LetterFor files (marks_at (conn m c)).wrote) (record { from = Node n; to = Node i; bytes = bytes }) (conn m c).letters sent old) _ spells in
        says.2 same

    -- ---- behind the records of its coming

    module _ (kept : (q : ℕ) → StayHits files i q m.journal (node_part s q).row (node_part s q).stay) (j : ℕ) (p : Packet) (there : packet_at m.net j ≡ Some p) (to : p.to ≡ Node i) where
      abbrev e : Event
      e = event.Deliver j

      abbrev rows_first : List Rec
      rows_first = first_rows m e

      abbrev base : List Rec
      base = m.journal ++ rows_first

      wrote-still : (c : ℕ) → wrote base c ≡ wrote m.journal c
      wrote-still c = fold-append (wrote_step c) [] m.journal rows_first

      untouched-still : (c : ℕ) → is_touched base c ≡ is_touched m.journal c
      untouched-still c = fold-append (touched_step c) false m.journal rows_first

      assigned-still : (c : ℕ) → assignments base c ≡ assignments m.journal c
      assigned-still c = fold-append (assignments_step c) (record { list = []; fresh = false }) m.journal rows_first

      -- what is meant before is meant so then
      still-for : (c r : ℕ) (path : List ℕ) → IsFor files (wrote m.journal c) r path → IsFor files (wrote base c) r path
      still-for c r path h = subst (λ (q : List ℕ). IsFor files q r path) (sym (wrote-still c)) h

      still-assigned : (c r : ℕ) (ask : Option ℕ) (J : List Rec) → HasAssignment files (wrote m.journal c) J c r ask → HasAssignment files (wrote base c) J c r ask
      still-assigned c r ask J h = subst (λ (q : List ℕ). HasAssignment files q J c r ask) (sym (wrote-still c)) h

      still-meant : (c epoch r : ℕ) (path : List ℕ) (number : ℕ) → MeantFor files c m.journal number r path → MeantBy files i c epoch base (Some number) r path
      still-meant c epoch r path number h =
          let w : List ℕ = wrote m.journal c in
          (still-for c r path h.0, still-assigned c r (Some number) (base ++ []) (assigned-past files w base [] c r (Some number) (assigned-past files w m.journal rows_first c r (Some number) h.1)))

      still-first : (c epoch r : ℕ) (path : List ℕ) → IsAssignedWith files (way_marks m.journal c) r path → MeantBy files i c epoch base None r path
      still-first c epoch r path h = (still-for c r path h.0, still-assigned c r None (base ++ begins_by i c epoch None) (first-assigned files (wrote m.journal c) m.journal c r rows_first i epoch (assigned-still c) h.1 h.2))

      module _ (msg : Message) (reads : decoded_message p.bytes ≡ Ok msg) where
        named : Names p.bytes msg.c
        named = decoded-names msg p.bytes reads

        letter-sent : p.from ≡ Front → Was (conn m msg.c) Front (Node i) p.bytes
        letter-sent from = was m j msg.c p there Front (Node i) from to named.named

        spells : (b : Body) → msg.body ≡ b → SpellsMessage msg.c msg.epoch.0 b p.bytes
        spells b is = reads ∙ (λ i. Ok (record { c = msg.c; epoch = msg.epoch; body = is i }))

        -- the connection sees it come
        comes : (from : Place) → p.from ≡ from → conn_of from (Node i) p.bytes ≡ named_in p.bytes → Has (Came (record { from = from; to = Node i; bytes = p.bytes })) (seen_on msg.c (net_of m.journal) rows_first)
        comes from is inner =
            let l : Letter = record { from = from; to = Node i; bytes = p.bytes } in
            let same : letter_of p ≡ l = λ z. record { from = is z; to = to z; bytes = p.bytes } in
            let its : conn_of p.from p.to p.bytes ≡ Some msg.c = (λ z. conn_of (is z) (to z) p.bytes) ∙ inner ∙ named.named in
            let at : packet_at (net_of m.journal) j ≡ Some p = ap (λ (net : List Packet). packet_at net j) (reached-viewed m.config m.files m reached).told ∙ there in
            subst (Has (Came l)) (sym (ap (λ (q : Option Packet). came_seen msg.c q ++ []) at ∙ ap (λ (ss : List Seen). ss ++ []) (one-mine msg.c (conn_of p.from p.to p.bytes) (Came (letter_of p)) its))) (inl (ap (λ (z : Letter). Came z) same))

        tag-told : (number_of : ℕ) (nodes : List ℕ) → p.from ≡ Front → msg.body ≡ body.Tag number_of nodes → (y : ControlBlock × Stay) → here msg.epoch.0 (node_part s msg.c) ≡ Some y → TagHasCome base i msg.c msg.epoch.0 number_of
        tag-told number_of nodes is of y held = record {
          nodes = nodes;
          bytes = p.bytes;
          came = record {
            before = own msg.c m.journal;
            later = seen_on msg.c (net_of m.journal) rows_first;
            split = own-append msg.c m.journal rows_first;
            took = row-took i msg.c msg.epoch.0 (own msg.c m.journal) (node_part s msg.c).row (node_part s msg.c).stay y held (row-there msg.c);
            saw = comes Front is refl;
          };
          reads = spells (body.Tag number_of nodes) of;
        }

        body-known : (from : Place) → p.from ≡ from → (b : Body) → msg.body ≡ b → BodyKnown its base s from msg.c msg.epoch.0 b
        body-known Front is (body.Offer parts) of = λ new u.
            first-weaker files (IsAssignedWith files (way_marks m.journal msg.c)) (MeantBy files i msg.c msg.epoch.0 base None) (λ r path h. still-first msg.c msg.epoch.0 r path h) (parts.served + 1) (batch_of 8 parts.unread)
            (offer-known msg.c msg.epoch.0 named.number p.bytes (letter-sent is) parts (spells (body.Offer parts) of) new (sym (untouched-still msg.c) ∙ u))
        body-known Front is (body.Tag number_of nodes) of = λ y held awaited. record {
          told = tag-told number_of nodes is of y held;
          for = λ u.
              named-weaker files (MeantFor files msg.c m.journal number_of) (MeantBy files i msg.c msg.epoch.0 base (Some number_of)) (λ r path h. still-meant msg.c msg.epoch.0 r path number_of h) (y.1.served + 1) y.1.batch
              (tag-known msg.c msg.epoch.0 named.number p.bytes (letter-sent is) number_of nodes (spells (body.Tag number_of nodes) of) y held awaited (sym (untouched-still msg.c) ∙ u));
        }
        body-known (Node n) is (body.Fetch r path) of = λ u same. other-asks msg.c named.number n p.bytes (was m j msg.c p there (Node n) (Node i) is to named.named) msg.epoch.0 r path (spells (body.Fetch r path) of) (sym (untouched-still msg.c) ∙ u) same
        body-known (Node n) is (body.Content r file) of = record {
          old = m.journal;
          first = rows_first;
          is = refl;
          kept = kept msg.c;
          comes = record { file = file; bytes = p.bytes; came = comes (Node n) is refl; reads = spells (body.Content r file) of };
        }
        body-known _ is _ of = tt

      gets-known : (r : Result Message MsgFault) → decoded_message p.bytes ≡ r → GetsKnown its base s p.from r
      gets-known (Err fault) reads = tt
      gets-known (Ok msg) reads = body-known msg reads p.from refl msg.body refl

    step-known : ((q : ℕ) → StayHits files i q m.journal (node_part s q).row (node_part s q).stay) → (d : Event) (comes : BackIn) → Comes m d i s comes → StepKnown its (m.journal ++ first_rows m d) s comes
    step-known kept d (input.Message from bytes) h =
        subst (λ (l : List Rec). GetsKnown its l s from (decoded_message bytes)) (ap (λ (v : Event). m.journal ++ first_rows m v) (sym h.2))
        (subst (λ (f : Place). GetsKnown its (m.journal ++ first_rows m (event.Deliver h.0)) s f (decoded_message bytes)) h.4
        (subst (λ (bs : List ℕ). GetsKnown its (m.journal ++ first_rows m (event.Deliver h.0)) s h.1.from (decoded_message bs)) h.6
        (gets-known kept h.0 h.1 h.3 h.5 (decoded_message h.1.bytes) refl)))
    step-known kept d _ h = tt

-- ---- a state

-- what nodes keep, and what the journal says, of what caches had
pub record AreHit (files : FilesAt) (m : Machine) : Type 0 where
  pub kept : (n : ℕ) (s : NodeState) → node_at m.nodes n ≡ Some s → (q : ℕ) → StayHits files n q m.journal (node_part s q).row (node_part s q).stay
  pub law : EachMay (MayHit files) [] m.journal

module _ (files : FilesAt) (m n : Machine) (hit : AreHit files m) where
  -- no node moves
  mild-hit : n.nodes ≡ m.nodes → IsCalm IsStill m n → AreHit files n
  mild-hit same mild = record {
    kept = λ i s at q. subst (λ (J : List Rec). StayHits files i q J (node_part s q).row (node_part s q).stay) (sym mild.1) (stay-more files i q m.journal mild.0 (node_part s q).row (node_part s q).stay (hit.kept i s (ap (λ (nodes : List NodeState). node_at nodes i) (sym same) ∙ at) q));
    law = subst (EachMay (MayHit files) []) (sym mild.1) (each_append (MayHit files) [] m.journal mild.0 hit.law (stills-may files m.journal mild.0 mild.2));
  }

module _ (m : Machine) (e : Event) (hit : AreHit (file_at m.files) m) (i : ℕ) (s : NodeState) (at : node_at m.nodes i ≡ Some s) (comes : BackIn) (t : NodeState) (o : Out) (h : StepHits (node_setting m i) comes (m.journal ++ first_rows m e) (t, o)) where
  abbrev fs : FilesAt
  fs = file_at m.files

  abbrev first : List Rec
  first = first_rows m e

  abbrev w : Machine
  w = record m { nodes = slice_set m.nodes (i - 1) t }

  abbrev last : List Rec
  last = last_rows w (Node i) o

  abbrev rows : List Rec
  rows = first ++ o.notes ++ last

  whole : (m.journal ++ first ++ o.notes) ++ last ≡ m.journal ++ rows
  whole = ap (λ l. l ++ last) (append_assoc m.journal first o.notes) ∙ append_assoc m.journal (first ++ o.notes) last

  each-hit : (j : ℕ) (u : NodeState) → node_at w.nodes j ≡ Some u → (q : ℕ) → StayHits fs j q (m.journal ++ rows) (node_part u q).row (node_part u q).stay
  each-hit j u is q = by_number (StayHits fs j q (m.journal ++ rows) (node_part u q).row (node_part u q).stay) j i
      (λ same.
      let one : Some t ≡ Some u = sym (node-set m.nodes i s t at) ∙ ap (node_at w.nodes) (sym same) ∙ is in
      let e : t ≡ u = cc in
      subst (λ (n : ℕ). StayHits fs n q (m.journal ++ rows) (node_part u q).row (node_part u q).stay) (sym same) (subst (λ (v : NodeState). StayHits fs i q (m.journal ++ rows) (node_part v q).row (node_part v q).stay) e
      (subst (λ (J : List Rec). StayHits fs i q J (node_part t q).row (node_part t q).stay) whole (node-more (node_setting m i) (m.journal ++ first ++ o.notes) last t h.kept q))))
      (λ other. stay-more fs j q m.journal rows (node_part u q).row (node_part u q).stay (hit.kept j u (sym (node-others m.nodes i j s t at other) ∙ is) q))

  law-on : EachMay (MayHit fs) [] (m.journal ++ rows)
  law-on = subst (EachMay (MayHit fs) []) whole
      (each_append (MayHit fs) [] (m.journal ++ first ++ o.notes) last
      (each_append (MayHit fs) [] (m.journal ++ first) o.notes
      (each_append (MayHit fs) [] m.journal first hit.law (stills-may fs m.journal first (first-calm IsStill allows-still m e)))
      h.notes)
      (stills-may fs (m.journal ++ first ++ o.notes) last (last-calm IsStill allows-still w (Node i) o h.gave h.timers)))

  node-hit : AreHit fs (node_gave m e (behind e) i (t, o))
  unfolding machine_told
  node-hit =
      let J : (node_gave m e (behind e) i (t, o)).journal ≡ m.journal ++ rows = told-journal w e (Node i) o in
      record {
        kept = λ j u is q. subst (λ (J : List Rec). StayHits fs j q J (node_part u q).row (node_part u q).stay) (sym J) (each-hit j u is q);
        law = subst (EachMay (MayHit fs) []) (sym J) law-on;
      }

-- ---- every state

nothing-hit : (files : FilesAt) (n limit q : ℕ) → StayHits files n q [] (node_part (no_stays limit) q).row (node_part (no_stays limit) q).stay
nothing-hit files n limit q = subst (StayHits files n q [] (node_part (no_stays limit) q).row) (sym (get-empty nat_cmp q)) tt

module _ (config : Config) (files : List (List ℕ × List ℕ)) (checked : config_check config ≡ Ok tt) where
  abbrev Hit : Machine → Type 0
  Hit m = AreHit (file_at files) m

  start-hit : Hit (machine_start config files)
  start-hit = record {
    kept = λ n s at q. of-nodes (λ (o : Option NodeState). o ≡ Some s → StayHits (file_at files) n q [] (node_part s q).row (node_part s q).stay) config.nodes (no_stays config.cache)
        (λ e. let no : None ≡ Some s = e in absurd cc)
        (λ e. let same : no_stays config.cache ≡ s = cc in subst (λ (x : NodeState). StayHits (file_at files) n q [] (node_part x q).row (node_part x q).stay) same (nothing-hit (file_at files) n config.cache q))
        n at;
    law = tt;
  }

  -- a state has the settings that it began with
  own-checked : (k : Machine) → IsOn config files k → config_check k.config ≡ Ok tt
  own-checked k on = subst (λ (g : Config). config_check g ≡ Ok tt) (sym on.config_is) checked

  own-reached : (k : Machine) → IsOn config files k → IsReached k.config k.files k
  own-reached k on = subst (λ (fs : List (List ℕ × List ℕ)). IsReached k.config fs k) (sym on.files_are) (subst (λ (g : Config). IsReached g files k) (sym on.config_is) on.reached)

  now-hit : (k : Machine) → IsOn config files k → Hit k → AreHit (file_at k.files) k
  now-hit k on hit = subst (λ (fs : List (List ℕ × List ℕ)). AreHit (file_at fs) k) (sym on.files_are) hit

  -- a node's step
  pub node-hits : (k : Machine) → IsOn config files k → Hit k → (e : Event) (n : Machine) (step : NodeStep k e n)
      → StepHits (node_setting k step.i) step.comes (k.journal ++ first_rows k e) (node_step (node_setting k step.i) step.s step.comes)
  node-hits k on hit e n step = step-hits (node_setting k step.i) (k.journal ++ first_rows k e) step.s step.comes
      (node-more (node_setting k step.i) k.journal (first_rows k e) step.s ((now-hit k on hit).kept step.i step.s step.there)) (step-known k (own-checked k on) (own-reached k on) step.i step.s step.there ((now-hit k on hit).kept step.i step.s step.there) e step.comes step.came)

  pub reached-hit : (m : Machine) → IsReached config files m → Hit m
  reached-hit m r = carried-keep config files Hit start-hit
      (λ k n e on hit rule is.
      subst (λ (fs : List (List ℕ × List ℕ)). AreHit (file_at fs) n) on.files_are
      (⊎_elim
      (λ (stay : NodesStay k e n). mild-hit (file_at k.files) k n (now-hit k on hit) stay.0 (stays-still k on.view e n rule is stay))
      (λ (step : NodeStep k e n).
      let given : NodeState × Out = node_step (node_setting k step.i) step.s step.comes in
      subst (AreHit (file_at k.files)) (sym step.is) (node-hit k e (now-hit k on hit) step.i step.s step.there step.comes given.0 given.1 (node-hits k on hit e n step)))
      (node-form k n e is)))
      m r
