-- What each rule does to where a connection is, and to what a node decided.
use Rattle.std.proofs.Common.{◌≡◌, ◌⊎◌, ℕ, ◌+◌, true, false, List, [], ◌∷◌, ◌++◌, Option, Some, None, refl, sym, ap, ◌∙◌, subst, inl, inr, ⊎_elim, eqb-true}
use Rattle.lard_law_view.specs.Prelude.{BackRow, ClientRules, Conn, ControlBlock, Ending, EndpointParts, Epoch, FirstChoice, Front, FrontConn, FrontDeed, FrontEnv, FrontGets, FrontPart, FrontRest, FrontRow, FrontRules, Has, MayRestOn, Move, NodeDeed, NodeEnv, NodeGets, NodePart, NodeRules, Place, Rec, ReturnedBy, Rules, Said, Seen, Setting, Stay, Turn, Work, after_timer, back_part, back_rest, came_for, come_progress, front_does, front_fired, front_rest, front_rests, front_rule, given_sent, goes_on, gone, is_away, kept_after, next_epoch, node_begins, node_does, node_put_back, node_rule, offer_answer, on_segment, read_progress, reads_batch, returned_row, serving, serving_ready_of, serving_settled, spoken, state_of, tagged, taken_sent, timed, with_work, without, work_of}
use Rattle.lard_base.specs.declared.place.TimerKind.TheVariants as kind
use Rattle.lard_law_connections.specs.Past.{AtFront, AtNode, DecidedIn, Over, Whereabouts, stage_whereabouts, whereabouts, whereabouts_of}
use Rattle.lard_law_connections.proofs.PlacesFrontMessages.{IsRefusedThere, no-give, offer-says, refused-there}
use Rattle.lard_law_connections.proofs.PlacesNodeRules.{not-decided}
use Rattle.lard_law_connections.proofs.PlacesTurns.{IsPlaced}
use Rattle.lard_law_connections.proofs.PlacesWithNode.{IsWithNode, with-node}
use Rattle.lard_law_connections.specs.Places.{IsDecided, IsOffered, IsPast, Offers}
use Rattle.lard_law_view.proofs.EachClient.{each-client}
use Rattle.lard_law_view.proofs.EachFront.{FrontComes, HasBack, admission, each-front}
use Rattle.lard_law_view.proofs.EachNode.{HasCome, NodeComes, each-node, node_goes}
use Rattle.lard_handoff_back.specs.declared.table.Adopt.TheVariants.{New}
use Rattle.lard_handoff_front.specs.declared.row.FrontConn.TheVariants as stage
use Rattle.lard_history.proofs.Seeing.{has-behind}
use Rattle.lard_journal.specs.declared.rec.Rec.TheVariants as rec
use Rattle.lard_message.specs.declared.message.Body.TheVariants as body
use Rattle.lard_rules.proofs.FrontCases.{IsAsGiven, IsAwayWith, IsBack, IsInStage, KeptByFront, KeptByReturn, KeptBySegment, begun_row, begun_service, front-keeps, heard_service, waiting_service}
use Rattle.lard_rules.proofs.NodeCases.{IsHereWith, IsOfItsEpoch, KeptByNode, Turned, node-keeps}
use Rattle.lard_rules.specs.Front.{Drops, Says, Does}
use Rattle.lard_rules.specs.Node as node
use Rattle.lard_rules.specs.declared.places.Ending.TheVariants as ending

-- ---- from where it comes back

-- its node refused it, and gave it not back: so it did not take it
refuses : (x : Conn) → IsPlaced x → (n epoch : ℕ) (given : Option EndpointParts) (heads : List Seen) → HasBack x n epoch given heads
    → (row : FrontRow) (parts : EndpointParts) → IsBack x.part.front n epoch given row parts → IsRefusedThere x n epoch row
refuses x placed n epoch None heads comes row parts at = refused-there x placed n epoch heads comes row parts at
refuses x placed n epoch (Some given) heads comes row parts at = absurd (no-give x placed n epoch given comes.bytes comes.was comes.spells)

-- ---- the front end

-- a first assignment to node n is noted
pub record IsAssigned (c n : ℕ) (ns : List Rec) : Type 0 where
  pub r : ℕ
  pub path : List ℕ
  pub add : Option ℕ
  pub remove : Option ℕ
  pub noted : Has (rec.AssignedFirst c r path n add remove) ns

-- What the front end has stays here, is handed off to the node that is assigned, or is closed.
pub data GoesOn (c : ℕ) (q : Whereabouts) (ns : List Rec) : Type 0 where
  StaysHere : q ≡ AtFront → GoesOn c q ns
  Hands : (n e : ℕ) → q ≡ AtNode n e → IsAssigned c n ns → GoesOn c q ns
  Closes : (by : Option Epoch) → q ≡ Over by → GoesOn c q ns

-- Where a connection is stays so; or it goes on from the front end; or it is closed by the end of its stay; or it comes back from a node that
-- did not take it, and goes on from the front end.
pub data FrontGoes (c : ℕ) (nodes : ℕ → NodePart) (o q : Whereabouts) (ns : List Rec) : Type 0 where
  Stays : q ≡ o → FrontGoes c nodes o q ns
  FromHere : o ≡ AtFront → GoesOn c q ns → FrontGoes c nodes o q ns
  Ends : (n e : ℕ) → o ≡ AtNode n e → q ≡ Over (Some (record { 0 = e })) → FrontGoes c nodes o q ns
  Returns : (n e : ℕ) → o ≡ AtNode n e → IsPast e (nodes n).row → GoesOn c q ns → FrontGoes c nodes o q ns

-- of a row in this stage
in-stage : (p : FrontPart) (row : FrontRow) (st : FrontConn) → IsInStage p row st → whereabouts p.row ≡ stage_whereabouts row.ended_by st
in-stage p row st at = ap whereabouts at.0 ∙ ap (stage_whereabouts row.ended_by) at.1

module _ (env : FrontEnv) (p : FrontPart) (nodes : ℕ → NodePart) where
  abbrev c : ℕ
  c = env.serve.c

  abbrev pub DeedGoes : FrontDeed → Type 0
  DeedGoes Drops = Unit {0}
  DeedGoes (Says turn) = Unit {0}
  DeedGoes (Does did) = FrontGoes c nodes (whereabouts p.row) (whereabouts did.part.row) did.turn.notes

  -- ---- what is here

  -- it stays here, or is closed
  held-goes : (q : FrontPart) (row : FrontRow) (rest : FrontRest) (given : Ending × Turn)
      → GoesOn c (whereabouts (front_rests q row rest stage.Held given.0).row) given.1.notes
  held-goes q row rest given = go given.0 where
    go : (e : Ending) → GoesOn c (whereabouts (front_rests q row rest stage.Held e).row) given.1.notes
    go (ending.Here b count) = StaysHere refl
    go (ending.Over last) = Closes row.ended_by refl

  waits-goes : (q : FrontPart) (row : FrontRow) (rest : FrontRest) (given : Ending × Turn)
      → GoesOn c (whereabouts (front_rests q row rest stage.Waiting given.0).row) given.1.notes
  waits-goes q row rest given = go given.0 where
    go : (e : Ending) → GoesOn c (whereabouts (front_rests q row rest stage.Waiting e).row) given.1.notes
    go (ending.Here b count) = StaysHere refl
    go (ending.Over last) = Closes row.ended_by refl

  -- it is handed off
  abbrev assigned_to : ℕ → List ℕ → FirstChoice → Rec
  assigned_to r path choice = rec.AssignedFirst c r path choice.node choice.add choice.remove

  hands-goes : (row : FrontRow) (ns : List Rec) (r : ℕ) (path : List ℕ) (choice : FirstChoice)
      → GoesOn c (AtNode choice.node (next_epoch row).0) (ns ++ rec.Admitted c ∷ assigned_to r path choice ∷ [])
  hands-goes row ns r path choice = Hands choice.node (next_epoch row).0 refl (record {
    r = r;
    path = path;
    add = choice.add;
    remove = choice.remove;
    noted = has-behind (assigned_to r path choice) ns (rec.Admitted c ∷ assigned_to r path choice ∷ []) (inr (inl refl));
  })

  by-segment : (bytes : List ℕ) (s : Said) → KeptBySegment env p bytes s (λ w o. Unit {0}) DeedGoes
  by-segment bytes s = record {
    drops = tt;
    begins = λ none plain. FromHere (ap whereabouts none) (held-goes p begun_row (front_rest None) (spoken env.serve (begun_service env s) []));
    reads = λ row b at. tt;
    holds = λ row b w at r. FromHere (in-stage p row (stage.Held b) at) (held-goes p row (front_rest p.rest) (serving_settled env.serve w));
    hands = λ row b w path choice at r is. FromHere (in-stage p row (stage.Held b) at) (hands-goes row w.notes (w.count + 1) path choice);
    waits = λ row b w path at r is. FromHere (in-stage p row (stage.Held b) at)
        (waits-goes p row (record (front_rest p.rest) { target = Some path }) (spoken env.serve (waiting_service env w) []));
    stays = λ row b at. FromHere (in-stage p row (stage.Waiting b) at) (waits-goes p row (front_rest p.rest) (spoken env.serve (heard_service p b s) []));
    forwards = λ row n e at. tt;
    words = λ row last at. tt;
  }

  -- its stay ended
  ends-goes : (epoch : ℕ) (row : FrontRow) (ns : List Rec) → p.row ≡ Some row → is_away epoch row.stage ≡ true
      → FrontGoes c nodes (whereabouts p.row) (Over (Some (record { 0 = epoch }))) ns
  ends-goes epoch row ns found away = go row.stage refl away where
    ends-at : (n : ℕ) (e : Epoch) → whereabouts p.row ≡ AtNode n e.0 → e.0 ≡ epoch
        → FrontGoes c nodes (whereabouts p.row) (Over (Some (record { 0 = epoch }))) ns
    ends-at n e at same = Ends n epoch (at ∙ ap (AtNode n) same) refl

    go : (st : FrontConn) → row.stage ≡ st → is_away epoch st ≡ true → FrontGoes c nodes (whereabouts p.row) (Over (Some (record { 0 = epoch }))) ns
    go (stage.Offering n e) at is = ends-at n e (in-stage p row (stage.Offering n e) (found, at)) (eqb-true e.0 epoch is)
    go (stage.Moved n e) at is = ends-at n e (in-stage p row (stage.Moved n e) (found, at)) (eqb-true e.0 epoch is)
    go _ at is = let no : false ≡ true = is in absurd cc

  -- it comes back
  by-return : (said : List (Place × List ℕ)) (n : ℕ) (from : Epoch) (row : FrontRow) (parts : EndpointParts) → IsAwayWith p row n from
      → IsPast from.0 (nodes n).row
      → KeptByReturn env p said row parts (λ w o. Unit {0}) DeedGoes
  by-return said n from row parts at past =
      let back : FrontRow = returned_row parts row in record {
        reads = tt;
        holds = λ w r. Returns n from.0 was past (held-goes (back_part p row parts) back (back_rest parts) (serving_settled env.serve w));
        hands = λ w path choice r is. Returns n from.0 was past (hands-goes back w.notes (w.count + 1) path choice);
        waits = λ w path r is. Returns n from.0 was past
            (waits-goes (back_part p row parts) back (record (back_rest parts) { target = Some path }) (spoken env.serve (waiting_service env w) []));
      } where
        was : whereabouts p.row ≡ AtNode n from.0
        was = ⊎_elim (λ offering. in-stage p row (stage.Offering n from) offering) (λ moved. in-stage p row (stage.Moved n from) moved) at

  -- what comes back did so from a node that did not take it
  abbrev pub MayReturn : FrontGets → Type 0
  MayReturn (ReturnedBy n epoch given) = (row : FrontRow) (parts : EndpointParts) → IsBack p n epoch given row parts → IsPast epoch (nodes n).row
  MayReturn _ = Unit {0}

  by-rules : KeptByFront env p MayReturn (λ w o. Unit {0}) DeedGoes
  by-rules = record {
    drops = tt;
    hears = λ bytes s m. by-segment bytes s;
    fires = λ m. record {
      drops = tt;
      holds = λ row b at. FromHere (in-stage p row (stage.Held b) at) (held-goes p row (front_rest p.rest) (front_fired env (front_rest p.rest) b));
      stays = λ row b at. FromHere (in-stage p row (stage.Waiting b) at) (waits-goes p row (front_rest p.rest) (front_fired env (front_rest p.rest) b));
      resends = λ row n e at. tt;
    };
    takes = λ i epoch m row n e at same. Stays (ap (AtNode n) (sym same) ∙ sym (in-stage p row (stage.Offering n e) at));
    tags_again = λ n epoch ask m rest found there same some. tt;
    assigns_next = λ n epoch ask m rest found there next. Stays refl;
    ends_again = λ n epoch last m row found away again. tt;
    ends = λ n epoch last m row found away. ends-goes epoch row (rec.Took Front c (next_epoch row) ∷ rec.Released c ∷ []) found away;
    gives_again = λ n epoch parts m row found past. tt;
    returns = λ n epoch given m row parts at. by-return (given_sent c n epoch given) n at.from row parts at.at
        (subst (λ (e : ℕ). IsPast e (nodes n).row) (sym at.epoch_is) (m row parts at));
    admits = λ choice made met row b path at target. FromHere (in-stage p row (stage.Waiting b) at)
        (hands-goes row [] ((front_rest p.rest).count + 1) path choice);
  }

  rule-goes : (g : FrontGets) → IsAsGiven env p g → MayReturn g → DeedGoes (front_rule env p g)
  rule-goes g is may = front-keeps env p MayReturn (λ w o. Unit {0}) DeedGoes by-rules g is may

-- ---- a node

-- where the front end has it with a node
pub at-node : (x : Conn) (n e : ℕ) → IsWithNode x n e → whereabouts_of x ≡ AtNode n e
at-node x n e h = ap whereabouts h.found ∙ ⊎_elim
    (λ (s : h.row.stage ≡ stage.Offering n (record { 0 = e })). ap (stage_whereabouts h.row.ended_by) s)
    (λ (s : h.row.stage ≡ stage.Moved n (record { 0 = e })). ap (stage_whereabouts h.row.ended_by) s)
    h.stage

-- It decided the epoch in which the connection is there, or it is acknowledged that a stay is over, or what it decided is as before.
pub data NodeGoes (n : ℕ) (at : Whereabouts) (o q : Option BackRow) : Type 0 where
  IsThere : (e : ℕ) → at ≡ AtNode n e → DecidedIn e q → NodeGoes n at o q
  Forgets : q ≡ gone o → NodeGoes n at o q
  Remains : q ≡ o → NodeGoes n at o q

module _ (x : Conn) (n epoch : ℕ) (env : NodeEnv) (heads : List Seen) (placed : IsPlaced x) (now : env.epoch ≡ epoch) where
  abbrev p : NodePart
  p = x.part.nodes n

  abbrev pub NodeDeedGoes : NodeDeed → Type 0
  NodeDeedGoes node.Drops = Unit {0}
  NodeDeedGoes (node.Says messages) = Unit {0}
  NodeDeedGoes (node.Does given) = NodeGoes n (whereabouts_of x) p.row given.0.row

  here-there : (b : ControlBlock) (s : Stay) → IsHereWith env.epoch p b s → whereabouts_of x ≡ AtNode n env.epoch
  here-there b s at = at-node x n env.epoch
      (with-node x placed n env.epoch b (at.found ∙ (λ i. Some (record { stage = at.staged i; epoch = record { 0 = at.epoch_is i } }))))

  -- what stays, and what ends, is of the epoch of its rule
  kept-in : (q : NodePart) (w : Work) (e : Ending) → DecidedIn env.epoch (kept_after env q w e).row
  kept-in q w (ending.Here b count) = refl
  kept-in q w (ending.Over last) = refl

  works-go : whereabouts_of x ≡ AtNode n env.epoch → (q : NodePart) (before : List _) (w : Work) → NodeDeedGoes (with_work env q before w)
  works-go at q before w = IsThere env.epoch at (kept-in q w (serving_settled env.serve w.service).0)

  -- and what goes back
  turns-go : whereabouts_of x ≡ AtNode n env.epoch → (q : NodePart) (before : List _) (w : Work) → Turned NodeDeedGoes env q before w
  turns-go at q before w = (λ rests. works-go at q before w, λ back. IsThere env.epoch at refl)

  -- it is offered there
  offered-there : (o : Option FrontRow) → IsOffered n epoch o → whereabouts o ≡ AtNode n epoch
  offered-there None offered = absurd offered
  offered-there (Some row) offered = go row.stage offered where
    go : (st : FrontConn) → Offers n epoch st → stage_whereabouts row.ended_by st ≡ AtNode n epoch
    go (stage.Offering m d) offers = λ i. AtNode (offers.0 i) (offers.1 i)
    go _ offers = absurd offers

  begins-there : (parts : EndpointParts) → HasCome x Front n epoch (body.Offer parts) heads → offer_answer env.epoch p.row ≡ New
      → whereabouts_of x ≡ AtNode n env.epoch
  begins-there parts come new =
      let said : IsDecided epoch p.row ⊎ IsOffered n epoch x.part.front.row =
      offer-says x placed n epoch parts come.bytes come.was come.spells in
      let offered : IsOffered n epoch x.part.front.row = ⊎_elim
      (λ (d : IsDecided epoch p.row). absurd (not-decided epoch p.row (subst (λ (i : ℕ). offer_answer i p.row ≡ New) now new) d))
      (λ (o : IsOffered n epoch x.part.front.row). o) said in
      offered-there x.part.front.row offered ∙ ap (AtNode n) (sym now)

  rules_go : KeptByNode env p (NodeComes x n epoch heads) NodeDeedGoes
  rules_go = record {
    drops = tt;
    hears = λ said b s m at. turns-go (here-there b s at) p [] (goes_on env (work_of (on_segment b said).1 s));
    tags = λ number nodes b s m at asked same count.
        turns-go (here-there b s at) (record p { kept = without kind.Ask 0 p.kept }) [] (goes_on env (tagged env nodes (work_of b s)));
    comes = λ from r b s m at wanted.
        turns-go (here-there b s at) (record p { fetches = without kind.Fetch r p.fetches }) [] (goes_on env (came_for (come_progress from) r (work_of b s)));
    reads = λ r path b s m at. turns-go (here-there b s at) p [] (goes_on env (came_for read_progress r (work_of b s)));
    begins = λ parts m new may. works-go (begins-there parts m new) p (taken_sent env) (goes_on env (state_of (reads_batch env true (node_begins env parts))));
    takes_again = λ parts m again. tt;
    refuses = λ parts m is. Remains refl;
    fires = λ b s m at. IsThere env.epoch (here-there b s at)
        (kept-in p (work_of (after_timer b) s) (spoken env.serve (serving (after_timer b) s.served []) (serving_ready_of env.serve (after_timer b) (timed b))).0);
    resends = λ m none. tt;
    ends = λ back m told was. Forgets refl;
    leaves = λ b s m at back. IsThere env.epoch (here-there b s at) refl;
  }

  node-rule-goes : (g : NodeGets) → IsOfItsEpoch env p g → NodeComes x n epoch heads g → NodeDeedGoes (node_rule env p g)
  node-rule-goes g at comes = node-keeps env p (NodeComes x n epoch heads) NodeDeedGoes rules_go g at comes

-- ---- a move

-- The front end moves it, and no node does; or a node does, and the front end does not.
pub data Goes (x : Conn) (v : Move) : Type 0 where
  InFront : v.part.nodes ≡ x.part.nodes → FrontGoes x.c x.part.nodes (whereabouts_of x) (whereabouts v.part.front.row) v.said.notes → Goes x v
  InNode : (n : ℕ) (q : NodePart) → v.part.front ≡ x.part.front → v.part.nodes ≡ node_put_back x.part.nodes n q
      → NodeGoes n (whereabouts_of x) (x.part.nodes n).row q.row → Goes x v

front-moves : (x : Conn) (env : FrontEnv) (heads : List Seen) (d : FrontDeed) → env.serve.c ≡ x.c → DeedGoes env x.part.front x.part.nodes d
    → Goes x (front_does x heads d)
front-moves x env heads Drops number h = InFront refl (Stays refl)
front-moves x env heads (Says turn) number h = InFront refl (Stays refl)
front-moves x env heads (Does did) number h = InFront refl
    (subst (λ (c : ℕ). FrontGoes c x.part.nodes (whereabouts_of x) (whereabouts did.part.row) did.turn.notes) number h)

-- with the record of a job in front, or none
node-moves : (x : Conn) (n epoch : ℕ) (env : NodeEnv) (heads : List Seen) (g : NodeGets) (placed : IsPlaced x) (now : env.epoch ≡ epoch) (d : NodeDeed)
    → node_rule env (x.part.nodes n) g ≡ d → NodeDeedGoes x n epoch env heads placed now d → Goes x (node_goes x n env heads g)
node-moves x n epoch env heads g placed now node.Drops is h =
    InFront (ap (λ d. (node_does x n heads d).part.nodes) is) (Stays (ap (λ d. whereabouts (node_does x n heads d).part.front.row) is))
node-moves x n epoch env heads g placed now (node.Says messages) is h =
    InFront (ap (λ d. (node_does x n heads d).part.nodes) is) (Stays (ap (λ d. whereabouts (node_does x n heads d).part.front.row) is))
node-moves x n epoch env heads g placed now (node.Does given) is h =
    InNode n given.0 (ap (λ d. (node_does x n heads d).part.front) is) (ap (λ d. (node_does x n heads d).part.nodes) is) h

may-return : (x : Conn) (env : FrontEnv) (heads : List Seen) → IsPlaced x → (g : FrontGets) → FrontComes x env heads g
    → MayReturn env x.part.front x.part.nodes g
may-return x env heads placed (ReturnedBy n epoch given) comes = λ row parts at. (refuses x placed n epoch given heads comes row parts at).coming.2
may-return x env heads placed _ comes = tt

module _ (k : Setting) where
  abbrev Going : Conn → Move → Type 0
  Going x v = MayRestOn IsPlaced x → Goes x v

  clients : ClientRules k Going
  clients = each-client k Going (record {
    opens = λ x isn iss wnd mss rule none may. InFront refl (Stays refl);
    does = λ x s g there comes may. InFront refl (Stays refl);
  })

  fronts : FrontRules k Going
  fronts = each-front k Going (λ x env heads g is comes may. front-moves x env heads (front_rule env x.part.front g) is.number
      (rule-goes env x.part.front x.part.nodes g (admission x env heads g comes) (may-return x env heads may.given g comes)))

  nodes : NodeRules k Going
  nodes = each-node k Going (record {
    does = λ x n epoch env heads g is at comes may. node-moves x n epoch env heads g may.given is.epoch_is (node_rule env (x.part.nodes n) g) refl
        (node-rule-goes x n epoch env heads may.given is.epoch_is g at.0 comes);
    aside = λ x n a seen may. InFront refl (Stays refl);
  })

  pub going : Rules k Going
  going = record {
    untouched = record { client = clients; front = fronts; node = nodes; ignores = λ x from to bytes was may. InFront refl (Stays refl) };
    injects = λ x s bytes there rule may. InFront refl (Stays refl);
  }
