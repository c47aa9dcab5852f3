-- In each move the Asks of a node go on, and what is known of them stays known.
use Rattle.std.proofs.Common.{◌≡◌, ◌≢◌, ◌⊎◌, ◌<◌, ◌≤◌, ◌+◌, ◌^◌, ◌==◌, ◌&&◌, nat_lt, ℕ, Bool, true, false, cond, List, [], ◌∷◌, ◌++◌, length, map, Option, Some, None, refl, sym, ap, ◌∙◌, subst, arith, eq-eqb, eqb-true, inl, inr, ⊎_elim}
use Rattle.std.proofs.lemmas.Bool.{and_parts, both_ways, ltb-true}
use Rattle.std.proofs.lemmas.List.Sums.{fold-append}
use Rattle.std.specs.List.{fold}
use Rattle.lard_law_view.specs.Prelude.{BackRow, Came, Client, ClientBlock, ClientRules, Conn, ControlBlock, EndpointParts, Front, IsNodeEnv, Move, Node, NodeEnv, NodeGets, NodePart, Offered, Place, Rec, Row, Rules, Seen, Setting, SpellsMessage, Station, Stay, Turn, Was, client_begins, client_does, client_injects, client_opens, client_rule, epoch_in, front_does, front_rule, grown, inject_seen, is_gone, listed, node_does, node_put_back, node_rule, nothing_said, offer_answer, packet_seen, rows_of, seen_in, stands}
use Rattle.lard_law_view.proofs.EachFront.{each-front, of-front}
use Rattle.lard_law_view.proofs.EachClient.{client_seen, each-client, of-client}
use Rattle.lard_laws.specs.AsksSent.{AsksGoOn, IsNextAsk, ask_by, is_ask, last_ask, newest}
use Rattle.lard_laws.proofs.AsksNodeAsks.{DeedAsks, IsNewer, MayAsk, rule-asks}
use Rattle.lard_laws.proofs.AsksSending.{Outcome, PartAsks, asks_in}
use Rattle.lard_law_connections.specs.MotionStory.{of_row, picked}
use Rattle.lard_law_connections.proofs.MotionNodes.{IsFirst}
use Rattle.lard_law_connections.proofs.MotionPicking.{pick, pick-seen, picked-append, picked-none, segments-none, pick-sent}
use Rattle.lard_law_connections.specs.Places.{IsDecided, IsEarlyEpoch, IsEven, IsOffered, message_head}
use Rattle.lard_law_connections.proofs.PlacesFrontMessages.{offer-says}
use Rattle.lard_law_connections.proofs.PlacesNodeRules.{here-has}
use Rattle.lard_law_connections.proofs.PlacesTurns.{IsPlaced}
use Rattle.lard_law_view.specs.View.{sending}
use Rattle.lard_law_view.proofs.Fine.{IsItsOwn}
use Rattle.lard_law_view.proofs.Parts.{put-same}
use Rattle.lard_rules.specs.Front as front
use Rattle.lard_handoff_back.specs.declared.table.Adopt.TheVariants.{New, Again, Stale}
use Rattle.lard_history.proofs.Each.{Each, Each-weaker}
use Rattle.lard_history.proofs.Seeing.{other_number}
use Rattle.lard_journal.specs.declared.rec.Rec.TheVariants as rec
use Rattle.lard_message.specs.declared.message.Body.TheVariants as body
use Rattle.lard_law_view.proofs.NodeHeads.{heads-of}
use Rattle.lard_laws.proofs.NodeHere.{here-of}
use Rattle.lard_law_view.proofs.EachNode.{Answers, Aside, Brings, MayAside, NodeComes, Queues, aside_said, aside_seen, each-node, job_notes, node_goes, told_first}
use Rattle.lard_rules.proofs.NodeCases.{IsHereWith, IsInItsEpoch}
use Rattle.lard_rules.specs.Node as node
use Rattle.lard_law_view.proofs.EndpointSends.{AllTo}
use Rattle.lard_law_connections.proofs.PlacesWithNode.{offered-away}
use Rattle.lard_law_view.proofs.RecordKinds.{IsUnsent}

-- the last Asks that node n sent of the connection
abbrev pub lasts : Conn → ℕ → ℕ → Option (List ℕ)
lasts x n e = last_ask n e x.seen

-- what is known at each node
abbrev pub PartsAsk : Conn → Type 0
PartsAsk x = (n : ℕ) → PartAsks x.c (lasts x n) (x.part.nodes n)

-- with as many jobs as there may be
abbrev pub IsSomeNext : ℕ → ℕ → Option (List ℕ) → List ℕ → Type 0
IsSomeNext c e last bytes = (waiting : ℕ) × IsNextAsk c e waiting last bytes

abbrev pub GoesOn : ℕ → List Seen → List Seen → Type 0
GoesOn c past step = (n e : ℕ) → AsksGoOn (IsSomeNext c e) (last_ask n e past) (picked (of_row (ask_by n e)) step)

abbrev pub Sends : Conn → Move → Type 0
Sends x v = GoesOn x.c x.seen (seen_in x v) × PartsAsk (grown x v)

-- the move goes on as it must, and what is known stays known
abbrev pub Goes : Setting → Conn → Move → Type 0
Goes k x v = IsPlaced x → PartsAsk x → IsItsOwn x v → Sends x v

-- ---- what is seen of a move

pub ask-unsent : (n e : ℕ) (r : Rec) → IsUnsent r → ask_by n e r ≡ None
ask-unsent n e (rec.Sent k from to bytes) h = absurd h
ask-unsent n e _ h = refl

ask-first : (n e : ℕ) (s : Seen) → IsFirst s → of_row (ask_by n e) s ≡ None
ask-first n e (Row (rec.Event i d)) h = refl
ask-first n e (Row (rec.Opened c isn iss wnd mss)) h = refl
ask-first n e (Row (rec.Injected c)) h = refl
ask-first n e (Row _) h = absurd h
ask-first n e (Came l) h = refl

-- another place than a node sends no Ask
abbrev pub IsNoNode : Place → Type 0
IsNoNode Front = Unit {0}
IsNoNode (Client d) = Unit {0}
IsNoNode (Node n) = ⊥

pub else-asks : (n e : ℕ) (place : Place) (ss : List (Place × List ℕ)) → IsNoNode place → pick (ask_by n e) (map (sending place) ss) ≡ []
else-asks n e Front [] m = refl
else-asks n e Front (s ∷ ss) m = else-asks n e Front ss m
else-asks n e (Client d) [] m = refl
else-asks n e (Client d) (s ∷ ss) m = else-asks n e (Client d) ss m
else-asks n e (Node k) ss m = absurd m

-- nor does one node that of another
pub other-asks : (n e m : ℕ) (ss : List (Place × List ℕ)) → m ≢ n → pick (ask_by n e) (map (sending (Node m)) ss) ≡ []
other-asks n e m [] other = refl
other-asks n e m (s ∷ ss) other = (λ i. listed (one s.0 i) ++ other-asks n e m ss other i) where
  one : (to : Place) → ask_by n e (sending (Node m) (to, s.1)) ≡ None
  one Front = ap (λ b. cond (b && is_ask e (message_head s.1)) (Some s.1) None) (other_number m n other)
  one _ = refl

module _ (x : Conn) (v : Move) (own : IsItsOwn x v) (first : Each IsFirst v.heads) where
  abbrev segments : List Rec
  segments = map (sending v.place) v.said.segments

  abbrev messages : List Rec
  messages = map (sending v.place) v.said.messages

  -- its segments and its messages
  seen-asks : (n e : ℕ) → picked (of_row (ask_by n e)) (seen_in x v) ≡ pick (ask_by n e) segments ++ pick (ask_by n e) messages
  seen-asks n e =
      let f : Rec → Option (List ℕ) = ask_by n e in
      pick-seen f x v
      ∙ ap (λ l. l ++ pick f (rows_of x v)) (picked-none (of_row f) v.heads (Each-weaker IsFirst (λ s. of_row f s ≡ None) (ask-first n e) v.heads first))
      ∙ pick-sent f x v own (ask-unsent n e)

  -- the last ones then
  last-grown : (n e : ℕ) → lasts (grown x v) n e ≡ fold (λ (o : Option (List ℕ)) (bytes : List ℕ). Some bytes) (lasts x n e) (picked (of_row (ask_by n e)) (seen_in x v))
  last-grown n e =
      ap newest (picked-append (of_row (ask_by n e)) x.seen (seen_in x v))
      ∙ fold-append (λ (o : Option (List ℕ)) (bytes : List ℕ). Some bytes) None (picked (of_row (ask_by n e)) x.seen) (picked (of_row (ask_by n e)) (seen_in x v))

  -- of node n, by all that it sends
  abbrev Of : ℕ → Type 0
  Of n = ((e : ℕ) → AsksGoOn (IsSomeNext x.c e) (lasts x n e) (picked (of_row (ask_by n e)) (seen_in x v))) × PartAsks x.c (lasts (grown x v) n) (v.part.nodes n)

  all-of : ((n : ℕ) → Of n) → Sends x v
  all-of h = (λ n e. (h n).0 e, λ n. (h n).1)

  -- it sends none, and keeps what it kept
  none-of : (n : ℕ) → ((e : ℕ) → pick (ask_by n e) segments ≡ []) → ((e : ℕ) → pick (ask_by n e) messages ≡ []) → v.part.nodes n ≡ x.part.nodes n → PartAsks x.c (lasts x n) (x.part.nodes n) → Of n
  none-of n no_segments no_messages same h =
      let none : (e : ℕ) → picked (of_row (ask_by n e)) (seen_in x v) ≡ [] = λ e. seen-asks n e ∙ (λ i. no_segments e i ++ no_messages e i) in
      let still : (e : ℕ) → lasts (grown x v) n e ≡ lasts x n e = λ e. last-grown n e ∙ ap (fold (λ (o : Option (List ℕ)) (bytes : List ℕ). Some bytes) (lasts x n e)) (none e) in (
        λ e. subst (AsksGoOn (IsSomeNext x.c e) (lasts x n e)) (sym (none e)) tt,
        subst (PartAsks x.c (lasts (grown x v) n)) (sym same) (subst (λ (l : ℕ → Option (List ℕ)). PartAsks x.c l (x.part.nodes n)) (λ i e. sym (still e) i) h),
      )

  -- ---- a client, or the front end

  pub else-sends : IsNoNode v.place → v.part.nodes ≡ x.part.nodes → PartsAsk x → Sends x v
  else-sends m same h = all-of (λ n. none-of n (λ e. else-asks n e v.place v.said.segments m) (λ e. else-asks n e v.place v.said.messages m) (ap (λ (nodes : ℕ → NodePart). nodes n) same) (h n))

  -- ---- a node

  some-next : (e waiting : ℕ) (o : Option (List ℕ)) (all : List (List ℕ)) → AsksGoOn (IsNextAsk x.c e waiting) o all → AsksGoOn (IsSomeNext x.c e) o all
  some-next e waiting o [] h = tt
  some-next e waiting o (bytes ∷ more) h = ⊎_elim
      (λ (again : (o ≡ Some bytes) × AsksGoOn (IsNextAsk x.c e waiting) o more). inl (again.0, some-next e waiting o more again.1))
      (λ (new : IsNextAsk x.c e waiting o bytes × (more ≡ [])). inr ((waiting, new.0), new.1))
      h

  module _ (m : ℕ) (at : v.place ≡ Node m) (d : ℕ) (to : AllTo (Client d) v.said.segments) where
    no-segments : (n e : ℕ) → pick (ask_by n e) segments ≡ []
    no-segments n e = segments-none (ask_by n e) v.place d (λ k bytes. one v.place bytes) v.said.segments to where
      one : (place : Place) (bytes : List ℕ) → ask_by n e (rec.Sent 0 place (Client d) bytes) ≡ None
      one Front bytes = refl
      one (Node k) bytes = refl
      one (Client k) bytes = refl

    others : (n : ℕ) → m ≢ n → v.part.nodes n ≡ x.part.nodes n → PartsAsk x → Of n
    others n other same h = none-of n (no-segments n) (λ e. ap (λ place. pick (ask_by n e) (map (sending place) v.said.messages)) at ∙ other-asks n e m v.said.messages other) same (h n)

    mine : (waiting : ℕ) (q : NodePart) → v.part.nodes m ≡ q → Outcome x.c m (lasts x m) waiting v.said.messages q → Of m
    mine waiting q is out =
        let sent : (e : ℕ) → picked (of_row (ask_by m e)) (seen_in x v) ≡ asks_in m e v.said.messages =
        λ e. seen-asks m e ∙ ap (λ l. l ++ pick (ask_by m e) messages) (no-segments m e) ∙ ap (λ place. pick (ask_by m e) (map (sending place) v.said.messages)) at in (
          λ e. subst (AsksGoOn (IsSomeNext x.c e) (lasts x m e)) (sym (sent e)) (some-next e waiting (lasts x m e) (asks_in m e v.said.messages) (out.0 e)),
          subst (PartAsks x.c (lasts (grown x v) m)) (sym is)
              (subst (λ (l : ℕ → Option (List ℕ)). PartAsks x.c l q) (λ i e. sym (last-grown m e ∙ ap (fold (λ (o : Option (List ℕ)) (bytes : List ℕ). Some bytes) (lasts x m e)) (sent e)) i) out.1),
        )

    pub node-sends : (waiting : ℕ) (q : NodePart) → v.part.nodes m ≡ q → ((n : ℕ) → n ≢ m → v.part.nodes n ≡ x.part.nodes n) → Outcome x.c m (lasts x m) waiting v.said.messages q → PartsAsk x → Sends x v
    node-sends waiting q is same out h = all-of (λ n. go n (n == m) refl) where
      go : (n : ℕ) (b : Bool) → (n == m) ≡ b → Of n
      go n true e = subst Of (sym (eqb-true n m e)) (mine waiting q is out)
      go n false e = let other : n ≢ m = λ f. both_ways (n == m) e (eq-eqb n m f) in others n (λ f. other (sym f)) (same n other) h

-- ---- a client

module _ (k : Setting) (x : Conn) where
  client-goes : (heads : List Seen) (s : Station) (given : ClientBlock × Turn) → Each IsFirst heads → Goes k x (client_does x s heads given)
  client-goes heads s given first placed h own = else-sends x (client_does x s heads given) own first tt refl h

  -- ---- the front end

  front-goes : (heads : List Seen) → Each IsFirst heads → (d : front.FrontDeed) → Goes k x (front_does x heads d)
  front-goes heads first front.Drops placed h own = else-sends x (front_does x heads front.Drops) own first tt refl h
  front-goes heads first (front.Says turn) placed h own = else-sends x (front_does x heads (front.Says turn)) own first tt refl h
  front-goes heads first (front.Does did) placed h own = else-sends x (front_does x heads (front.Does did)) own first tt refl h

-- ---- a node

module _ (k : Setting) (x : Conn) (n epoch : ℕ) (env : NodeEnv) (is : IsNodeEnv k x.c n epoch env) where
  abbrev ours : NodePart
  ours = x.part.nodes n

  put-other : (q : NodePart) (m : ℕ) → m ≢ n → node_put_back x.part.nodes n q m ≡ x.part.nodes m
  put-other q m other = ap (λ b. cond b q (x.part.nodes m)) (other_number m n other)

  abbrev DeedsAsk : node.NodeDeed → Type 0
  DeedsAsk d = (h : PartsAsk x) → DeedAsks x.c n (lasts x n) env is.number ours (h n) d

  -- behind the record of a job of its own, or none
  node-goes : (heads : List Seen) → Each IsFirst heads → (first : List Rec) (d : node.NodeDeed) → (IsPlaced x → DeedsAsk d)
      → Goes k x (told_first first (node_does x n heads d))
  node-goes heads are first node.Drops asks placed h own =
      let v : Move = told_first first (node_does x n heads node.Drops) in all-of x v own are (λ m. none-of x v own are m (λ e. refl) (λ e. refl) refl (h m))
  node-goes heads are first (node.Says ms) asks placed h own =
      let v : Move = told_first first (node_does x n heads (node.Says ms)) in node-sends x v own are n refl 0 tt 0 ours refl (λ m other. refl) (asks placed h 0) h
  node-goes heads are first (node.Does given) asks placed h own =
      let v : Move = told_first first (node_does x n heads (node.Does given)) in
      let out = asks placed h in
      node-sends x v own are n refl env.serve.c out.1 (env.queue + length given.1.jobs) given.0 (put-same x.part.nodes n given.0) (put-other given.0) out.0 h

  -- ---- its epoch

  module _ (placed : IsPlaced x) where
    pub small-here : (b : ControlBlock) (s : Stay) → IsHereWith env.epoch ours b s → env.epoch < 2 ^ 16
    small-here b s at = let early = (here-has x placed n env.epoch b s (here-of env.epoch ours b s at)).can.early in omega (arith, early)

    undecided-away : IsDecided env.epoch ours.row ⊎ IsOffered n env.epoch x.part.front.row → (IsDecided env.epoch ours.row → ⊥) → IsEven env.epoch × IsEarlyEpoch env.epoch
    undecided-away said other = offered-away x placed n env.epoch (⊎_elim (λ (d : IsDecided env.epoch ours.row). absurd (other d)) (λ (o : IsOffered n env.epoch x.part.front.row). o) said)

    -- one that is new
    pub newer : (h : PartsAsk x) → IsDecided env.epoch ours.row ⊎ IsOffered n env.epoch x.part.front.row → offer_answer env.epoch ours.row ≡ New → IsNewer x.c n (lasts x n) env is.number ours (h n)
    newer h said = go ours.row refl where
      go : (o : Option BackRow) → ours.row ≡ o → offer_answer env.epoch o ≡ New → IsNewer x.c n (lasts x n) env is.number ours (h n)
      go None found e =
          let away = undecided-away said (λ d. subst (IsDecided env.epoch) found d) in
          let none : epoch_in ours ≡ 0 = ap (λ (o : Option BackRow). epoch_in (record ours { row = o })) found in record { small = omega (arith, away.1); above = omega (arith, away.0.1, none) }
      go (Some row) found e = by (row.epoch.0 == env.epoch) (nat_lt row.epoch.0 env.epoch && is_gone row.stage) refl e where
        by : (a b : Bool) → (nat_lt row.epoch.0 env.epoch && is_gone row.stage) ≡ b → cond a Again (cond b New Stale) ≡ New → IsNewer x.c n (lasts x n) env is.number ours (h n)
        by true b f e = absurd cc
        by false false f e = absurd cc
        by false true f e =
            let less : row.epoch.0 < env.epoch = ltb-true row.epoch.0 env.epoch (and_parts (nat_lt row.epoch.0 env.epoch) (is_gone row.stage) f).0 in
            let away = undecided-away said (λ d. let le : env.epoch ≤ row.epoch.0 = subst (IsDecided env.epoch) found d in omega (arith, le, less)) in
            let at : epoch_in ours ≡ row.epoch.0 = ap (λ (o : Option BackRow). epoch_in (record ours { row = o })) found in record { small = omega (arith, away.1); above = omega (arith, at, less) }

  -- what an Offer that comes says
  pub offer-said : IsPlaced x → (parts : EndpointParts) (bytes : List ℕ) → SpellsMessage x.c epoch (body.Offer parts) bytes → Was x Front (Node n) bytes → IsDecided env.epoch ours.row ⊎ IsOffered n env.epoch x.part.front.row
  offer-said placed parts bytes spells was =
      subst (λ (e : ℕ). IsDecided e ours.row ⊎ IsOffered n e x.part.front.row) (sym is.epoch_is) (offer-says x placed n epoch parts bytes was spells)

  -- what is known of an Offer that comes
  may-ask : (heads : List Seen) (g : NodeGets) → NodeComes x n epoch heads g → IsPlaced x → (h : PartsAsk x)
      → MayAsk x.c n (lasts x n) env is.number ours (h n) g
  may-ask heads (Offered parts) comes placed h = newer placed h (offer-said placed parts comes.bytes comes.spells comes.was)
  may-ask heads _ comes placed h = tt

  pub rule-goes : (heads : List Seen) (g : NodeGets) → IsInItsEpoch env ours g → NodeComes x n epoch heads g → Goes k x (node_goes x n env heads g)
  rule-goes heads g at comes = node-goes heads (heads-of IsFirst (λ l. tt) (λ i c. tt) x n epoch heads g comes) (job_notes x.c n g) (node_rule env ours g)
      (λ placed h. rule-asks x.c n (lasts x n) env is.number ours (h n) (small-here placed) g at.0 (may-ask heads g comes placed h))

-- what it does for another one
stands-goes : (k : Setting) (x : Conn) (n from : ℕ) (heads : List Seen) → Each IsFirst heads → (notes : List Rec) (bytes : List (List ℕ)) → Goes k x (stands x (Node n) heads (record { notes = notes; segments = []; gave = []; messages = map (λ b. (Node from, b)) bytes }))
stands-goes k x n from heads first notes bytes placed h own =
    let v : Move = stands x (Node n) heads (record { notes = notes; segments = []; gave = []; messages = map (λ b. (Node from, b)) bytes }) in
    all-of x v own first (λ m. none-of x v own first m (λ e. refl) (λ e. none m e bytes) refl (h m)) where
      none : (m e : ℕ) (bs : List (List ℕ)) → pick (ask_by m e) (map (sending (Node n)) (map (λ b. (Node from, b)) bs)) ≡ []
      none m e [] = refl
      none m e (b ∷ bs) = none m e bs

ignores-goes : (k : Setting) (x : Conn) (from to : Place) (bytes : List ℕ) → Goes k x (stands x to (packet_seen from to bytes) nothing_said)
ignores-goes k x from to bytes placed h own =
    let v : Move = stands x to (packet_seen from to bytes) nothing_said in all-of x v own (tt, tt) (λ m. none-of x v own (tt, tt) m (λ e. refl) (λ e. refl) refl (h m))

-- ---- every rule

module _ (k : Setting) where
  clients : ClientRules k (Goes k)
  clients = each-client k (Goes k) (record {
    opens = λ x isn iss wnd mss rule none. client-goes k x (client_begins x isn iss wnd mss).heads (record { client = (client_opens x.c isn wnd mss).0; iss = iss })
        (client_opens x.c isn wnd mss) (tt, (tt, tt));
    does = λ x s g there comes. client-goes k x (client_seen x.c g) s (client_rule x.c s.client g) (of-client x.c (Each IsFirst) (λ from bytes. (tt, tt)) (λ e. (tt, tt)) g);
  })

  asides-go : (x : Conn) (n : ℕ) (a : Aside) → MayAside k x n a → Goes k x (stands x (Node n) (aside_seen n a) (aside_said k n x.c a))
  asides-go x n (Answers from epoch r path file bytes) may = stands-goes k x n from (packet_seen (Node from) (Node n) bytes) (tt, tt) [] (_ ∷ [])
  asides-go x n (Queues from epoch r path file bytes) may = stands-goes k x n from (packet_seen (Node from) (Node n) bytes) (tt, tt) (rec.Queued n from x.c r path ∷ []) []
  asides-go x n (Brings from epoch r path) may = stands-goes k x n from [] tt (rec.Read n from x.c r path ∷ []) (_ ∷ [])

  pub all-send : Rules k (Goes k)
  all-send = record {
    untouched = record {
      client = clients;
      front = each-front k (Goes k) (λ x env heads g is comes. front-goes k x heads
          (of-front x (Each IsFirst) (λ from bytes. (tt, tt)) tt (tt, tt) env heads g comes) (front_rule env x.part.front g));
      node = each-node k (Goes k) (record { does = λ x n epoch env heads g is at comes. rule-goes k x n epoch env is heads g at comes; aside = asides-go });
      ignores = λ x from to bytes was. ignores-goes k x from to bytes;
    };
    injects = λ x s bytes there rule. client-goes k x (inject_seen x.c bytes) s (client_injects s.client bytes) (tt, (tt, tt));
  }
