-- Who serves a connection owns it; and what is seen before the notes of a move. So it is of each rule, by where the connection is.
use Rattle.std.proofs.Common.{◌≡◌, ℕ, ◌+◌, Bool, true, false, cond, List, [], ◌∷◌, ◌++◌, Option, Some, None, refl, sym, ap, ◌∙◌, subst, append_assoc, append-nil}
use Rattle.lard_law_view.specs.Prelude.{Ask, Client, ClientBlock, ClientRules, Completed, Conn, ControlBlock, EndpointParts, First, Front, FrontEnv, FrontGets, FrontPart, FrontRest, FrontRow, FrontRules, IsNodeEnv, LaterChoice, MayRestOn, Move, Node, NodeEnv, NodeGets, NodePart, NodeRules, Place, Reading, Rec, Said, Seen, Service, Setting, Station, Stay, Turn, UntouchedRules, Work, assigned_notes, back_notes, back_part, back_rest, came_for, client_begins, client_does, client_rule, come_progress, front_does, front_reads, front_rest, front_rule, given_sent, gives_back, goes_on, last_words, named_records, node_does, node_read, node_rule, on_segment, over_note, owner_step, placed, read_progress, reads_first, returned_row, serving_settled, stands, tagged, taken_sent, tale_at, tombstone, with_work, without, work_of}
use Rattle.lard_law_view.proofs.EachClient.{client_seen, each-client, of-client}
use Rattle.lard_law_view.proofs.EachFront.{admission, each-front, of-front}
use Rattle.lard_base.specs.declared.place.TimerKind.TheVariants as kind
use Rattle.lard_law_connections.proofs.BytesLaw.{IsHead, OwnerServes, ServesOwn}
use Rattle.lard_law_view.proofs.NodeHeads.{heads-of}
use Rattle.lard_law_connections.specs.Places.{Owning, Sits, owning}
use Rattle.lard_law_connections.proofs.PlacesLoops.{came-notes, goes-notes, reads-notes, settled-is, tagged-notes}
use Rattle.lard_law_connections.proofs.PlacesNodeRules.{Begins, begun-notes, begun_work, has-here, plain-more, took_by}
use Rattle.lard_law_connections.proofs.PlacesRows.{IsPlain, plain-named}
use Rattle.lard_law_connections.proofs.PlacesTurns.{IsPlaced}
use Rattle.lard_law_view.proofs.EachNode.{Answers, Aside, Brings, Queues, aside_said, aside_seen, each-node, node_goes}
use Rattle.lard_law_view.proofs.Fine.{IsItsOwn}
use Rattle.lard_law_view.proofs.Saying.{NotedAt}
use Rattle.lard_dispatch.specs.declared.dispatch.First.TheVariants as first
use Rattle.lard_rules.specs.Front as front
use Rattle.lard_handoff_front.specs.declared.row.FrontConn.TheVariants as stage
use Rattle.lard_history.proofs.Each.{Each, Each-append}
use Rattle.lard_journal.specs.declared.rec.Rec.TheVariants as rec
use Rattle.lard_law_view.proofs.Notes.{same-number}
use Rattle.lard_rules.specs.Node as node
use Rattle.lard_rules.proofs.NodeCases.{IsHereWith, IsOfItsEpoch, KeptByNode, Turned, node-keeps}
use Rattle.lard_rules.proofs.FrontCases.{IsAsGiven, IsInStage, KeptByFront, KeptByReturn, KeptBySegment, back_reading, front-keeps, heard_reading, of-stage}

-- ---- notes

-- it serves and resets nothing
abbrev IsSilent : Rec → Type 0
IsSilent (rec.Served place d r code size via) = ⊥
IsSilent (rec.Reset place d total) = ⊥
IsSilent _ = Unit {0}

silent-serve : (c : ℕ) (o : Option Place) (rs : List Rec) → Each IsSilent rs → OwnerServes c o rs
silent-serve c o [] h = tt
silent-serve c o (r ∷ rs) h = (one r h.0, silent-serve c (owner_step c o r) rs h.1) where
  one : (q : Rec) → IsSilent q → ServesOwn o q
  one (rec.Served place d k code size via) s = absurd s
  one (rec.Reset place d total) s = absurd s
  one _ s = tt

own-step : (c : ℕ) (o : Option Place) (r : Rec) → IsPlain r → owner_step c o r ≡ o
own-step c o (rec.Took place d epoch) h = absurd h
own-step c o (rec.Gave place d epoch) h = absurd h
own-step c o _ h = refl

-- a place notes only what it serves itself
serves-own : (place : Place) (c : ℕ) (o : Option Place) (r : Rec) → NotedAt place c r → o ≡ Some place → ServesOwn o r
serves-own Front c o (rec.Served Front d r code size via) h e = e
serves-own (Node n) c o (rec.Served (Node k) d r code size via) h e = e ∙ ap (λ (m : ℕ). Some (Node m)) (sym h.0)
serves-own _ c o (rec.Served place d r code size via) h e = absurd h
serves-own Front c o (rec.Reset Front d total) h e = e
serves-own (Node n) c o (rec.Reset (Node k) d total) h e = e ∙ ap (λ (m : ℕ). Some (Node m)) (sym h.0)
serves-own _ c o (rec.Reset place d total) h e = absurd h
serves-own _ c o _ h e = tt

-- where it owns the connection, and its notes leave it so
plain-serve : (place : Place) (c : ℕ) (o : Option Place) (rs : List Rec) → Each (NotedAt place c) rs → Each IsPlain rs → o ≡ Some place → OwnerServes c o rs
plain-serve place c o [] n p e = tt
plain-serve place c o (r ∷ rs) n p e = (serves-own place c o r n.0 e, subst (λ (q : Option Place). OwnerServes c q rs) (sym (own-step c o r p.0)) (plain-serve place c o rs n.1 p.1 e))

-- ---- what a move owes

pub record Known (x : Conn) (v : Move) : Type 0 where
  pub heads : Each IsHead v.heads
  pub serves : OwnerServes x.c (tale_at x).owner v.said.notes

abbrev pub Knows : Conn → Move → Type 0
Knows x v = MayRestOn IsPlaced x → IsItsOwn x v → Known x v

-- ---- a client

client-silent : (e c : ℕ) (rs : List Rec) → Each (NotedAt (Client e) c) rs → Each IsSilent rs
client-silent e c [] h = tt
client-silent e c (rec.Wrote d bytes ∷ rs) h = (tt, client-silent e c rs h.1)
client-silent e c (rec.Accepted d bytes ∷ rs) h = (tt, client-silent e c rs h.1)
client-silent e c (rec.Eof d ∷ rs) h = (tt, client-silent e c rs h.1)
client-silent e c (rec.Aborted d ∷ rs) h = (tt, client-silent e c rs h.1)
client-silent e c (_ ∷ rs) h = absurd h.0

client-knows : (x : Conn) (s : Station) (heads : List Seen) (given : ClientBlock × Turn) → Each IsHead heads → Knows x (client_does x s heads given)
client-knows x s heads given h may own = record { heads = h; serves = silent-serve x.c (tale_at x).owner given.1.notes (client-silent x.c x.c given.1.notes own.notes) }

-- ---- the front end

abbrev notes_of : front.FrontDeed → List Rec
notes_of front.Drops = []
notes_of (front.Says turn) = turn.notes
notes_of (front.Does did) = did.turn.notes

front-known : (x : Conn) (heads : List Seen) → Each IsHead heads → (d : front.FrontDeed)
    → (Each (NotedAt Front x.c) (notes_of d) → OwnerServes x.c (tale_at x).owner (notes_of d))
    → IsItsOwn x (front_does x heads d) → Known x (front_does x heads d)
front-known x heads quiet front.Drops serves own = record { heads = quiet; serves = tt }
front-known x heads quiet (front.Says turn) serves own = record { heads = quiet; serves = serves own.notes }
front-known x heads quiet (front.Does did) serves own = record { heads = quiet; serves = serves own.notes }

assigned-silent : (c : ℕ) (ask : Ask) (r : ℕ) (paths : List (List ℕ)) (choices : List LaterChoice) → Each IsSilent (assigned_notes c ask r paths choices)
assigned-silent c ask r [] choices = tt
assigned-silent c ask r (path ∷ paths) [] = tt
assigned-silent c ask r (path ∷ paths) (choice ∷ choices) = (tt, assigned-silent c ask (r + 1) paths choices)

over-silent : (c : ℕ) (b : Bool) (rs : List Rec) → Each IsSilent rs → Each IsSilent (over_note c b ++ rs)
over-silent c true rs h = (tt, h)
over-silent c false rs h = h

module _ (x : Conn) (env : FrontEnv) (sits : IsPlaced x) where
  abbrev p : FrontPart
  p = x.part.front

  abbrev owner_now : Option Place
  owner_now = (tale_at x).owner

  abbrev FrontServes : front.FrontDeed → Type 0
  FrontServes d = Each (NotedAt Front x.c) (notes_of d) → OwnerServes x.c owner_now (notes_of d)

  -- what was noted so far is of the owner, and what is plain behind it is so, too
  abbrev Owned : List Rec → Type 0
  Owned rs = (ms : List Rec) → Each IsPlain ms → Each (NotedAt Front x.c) (rs ++ ms) → OwnerServes x.c owner_now (rs ++ ms)

  owned-more : (rs ms : List Rec) → Each IsPlain ms → Owned rs → Owned (rs ++ ms)
  owned-more rs ms plain h ns also = subst (λ (l : List Rec). Each (NotedAt Front x.c) l → OwnerServes x.c owner_now l) (sym (append_assoc rs ms ns))
      (h (ms ++ ns) (Each-append IsPlain ms ns plain also))

  owned-serves : (rs : List Rec) → Owned rs → Each (NotedAt Front x.c) rs → OwnerServes x.c owner_now rs
  owned-serves rs h = subst (λ (l : List Rec). Each (NotedAt Front x.c) l → OwnerServes x.c owner_now l) (append-nil rs) (h [] tt)

  -- it owns what it holds
  held-owned : (row : FrontRow) (b : ControlBlock) → IsInStage p row (stage.Held b) → Owned []
  held-owned row b at ms plain noted = plain-serve Front x.c owner_now ms noted plain
      (ap (λ (w : Owning). w.owner) (of-stage (Sits (owning (tale_at x)) x.part.nodes) p row (stage.Held b) at sits.sits).0.1.0)

  -- and what it took back
  back-owned : (row : FrontRow) → Owned (back_notes env.serve.c row)
  back-owned row ms plain noted = (
    tt,
    (
      tt,
      subst (λ (b : Bool). OwnerServes x.c (cond b (Some Front) owner_now) ms) (sym (same-number env.serve.c x.c noted.0))
          (plain-serve Front x.c (Some Front) ms noted.1.1 plain refl),
    ),
  )

  -- what is read notes plain records, and so does what is placed
  read-serves : (r : Reading) → Owned r.service.notes → Owned (front_reads env.serve r).service.notes
  read-serves r h = reads-notes Owned owned-more env.serve r h

  settled-serves : (w : Service) → Owned w.notes → Each (NotedAt Front x.c) (serving_settled env.serve w).1.notes → OwnerServes x.c owner_now (serving_settled env.serve w).1.notes
  settled-serves w h = owned-serves (serving_settled env.serve w).1.notes (subst Owned (sym (settled-is env.serve w).notes) h)

  placed-serves : (part : FrontPart) (row : FrontRow) (rest : FrontRest) (w : Service) (path : List ℕ) (f : First) → Owned w.notes → FrontServes (front.Does (placed env part row rest w path f))
  placed-serves part row rest w path (first.Go choice) h = owned-serves (placed env part row rest w path (first.Go choice)).turn.notes
      (owned-more w.notes (rec.Admitted env.serve.c ∷ rec.AssignedFirst env.serve.c (w.count + 1) path choice.node choice.add choice.remove ∷ []) (tt, (tt, tt)) h)
  placed-serves part row rest w path first.Waits h = owned-serves (w.notes ++ rec.Waits env.serve.c ∷ []) (owned-more w.notes (rec.Waits env.serve.c ∷ []) (tt, tt) h)

  words-serve : (o : Option Said) → FrontServes (front.Says (front.turn_here (tombstone env.serve o)))
  words-serve None noted = tt
  words-serve (Some q) noted = tt

  by-segment : (bytes : List ℕ) (s : Said) → KeptBySegment env p bytes s (λ w o. Owned w.notes) FrontServes
  by-segment bytes s = record {
    drops = λ noted. tt;
    begins = λ none plain noted. (tt, tt);
    reads = λ row b at. read-serves (heard_reading p b s) (held-owned row b at);
    holds = λ row b w at owned. settled-serves w owned;
    hands = λ row b w path choice at owned is. placed-serves p row (front_rest p.rest) w path (first.Go choice) owned;
    waits = λ row b w path at owned is. placed-serves p row (front_rest p.rest) w path first.Waits owned;
    stays = λ row b at noted. tt;
    forwards = λ row n e at noted. tt;
    words = λ row last at. words-serve (last_words last.reason last s);
  }

  by-return : (said : List (Place × List ℕ)) (row : FrontRow) (parts : EndpointParts) → KeptByReturn env p said row parts (λ w o. Owned w.notes) FrontServes
  by-return said row parts = record {
    reads = read-serves (back_reading env row parts) (back-owned row);
    holds = λ w owned. settled-serves w owned;
    hands = λ w path choice owned is. placed-serves (back_part p row parts) (returned_row parts row) (back_rest parts) w path (first.Go choice) owned;
    waits = λ w path owned is. placed-serves (back_part p row parts) (returned_row parts row) (back_rest parts) w path first.Waits owned;
  }

  fronts_serve : KeptByFront env p (λ g. Unit {0}) (λ w o. Owned w.notes) FrontServes
  fronts_serve = record {
    drops = λ noted. tt;
    hears = λ bytes s m. by-segment bytes s;
    fires = λ m. record { drops = λ noted. tt; holds = λ row b at noted. tt; stays = λ row b at noted. tt; resends = λ row n e at noted. tt };
    takes = λ n epoch m row node e at same noted. tt;
    tags_again = λ n epoch ask m rest found there same some noted. tt;
    assigns_next = λ n epoch ask m rest found there next noted. silent-serve x.c owner_now (front.assigns env p rest n epoch ask (env.later ask)).turn.notes
        (over-silent env.serve.c (env.later ask).over (assigned_notes env.serve.c ask rest.assigned ask.paths (env.later ask).choices)
        (assigned-silent env.serve.c ask rest.assigned ask.paths (env.later ask).choices));
    ends_again = λ n epoch last m row found away again noted. tt;
    ends = λ n epoch last m row found away noted. (tt, (tt, tt));
    gives_again = λ n epoch parts m row found past noted. tt;
    returns = λ n epoch given m row parts back. by-return (given_sent env.serve.c n epoch given) row parts;
    admits = λ choice made met row b path at target noted. (tt, (tt, tt));
  }

  front-serves : (g : FrontGets) → IsAsGiven env p g → FrontServes (front_rule env p g)
  front-serves g is = front-keeps env p (λ g. Unit {0}) (λ w o. Owned w.notes) FrontServes fronts_serve g is tt

-- ---- a node

abbrev notes_at : node.NodeDeed → List Rec
notes_at node.Drops = []
notes_at (node.Says messages) = []
notes_at (node.Does given) = named_records given.1.notes

module _ (k : Setting) (x : Conn) (heads : List Seen) (quiet : Each IsHead heads) (n epoch : ℕ) (env : NodeEnv) (is : IsNodeEnv k x.c n epoch env) where
  abbrev now : Option Place
  now = (tale_at x).owner

  abbrev ours : NodePart
  ours = x.part.nodes n

  node-known : (d : node.NodeDeed) → OwnerServes x.c now (notes_at d) → Known x (node_does x n heads d)
  node-known node.Drops h = record { heads = quiet; serves = h }
  node-known (node.Says messages) h = record { heads = quiet; serves = h }
  node-known (node.Does given) h = record { heads = quiet; serves = h }

  node-noted : (d : node.NodeDeed) → IsItsOwn x (node_does x n heads d) → Each (NotedAt (Node n) x.c) (notes_at d)
  node-noted node.Drops own = tt
  node-noted (node.Says messages) own = tt
  node-noted (node.Does given) own = own.notes

  -- what is behind its notes
  abbrev Serves : node.NodeDeed → Type 0
  Serves d = Each (NotedAt (Node n) x.c) (notes_at d) → OwnerServes x.c now (notes_at d)

  work-serves : (p : NodePart) (before : List (Place × List ℕ)) (w : Work) → now ≡ Some (Node n) → Each IsPlain w.service.notes → Serves (with_work env p before w)
  work-serves p before w e plain noted =
      plain-serve (Node n) x.c now (named_records (serving_settled env.serve w.service).1.notes) noted (plain-named (serving_settled env.serve w.service).1.notes (subst (Each IsPlain) (sym (settled-is env.serve w.service).notes) plain)) e

  goes-serves : (p : NodePart) (w : Work) → now ≡ Some (Node n) → Each IsPlain w.service.notes → Serves (with_work env p [] (goes_on env w))
  goes-serves p w e plain = work-serves p [] (goes_on env w) e (goes-notes (Each IsPlain) plain-more env w plain)

  -- what goes back was served before
  back-serves : (p : NodePart) (before : List (Place × List ℕ)) (w : Work) → now ≡ Some (Node n) → Each IsPlain w.service.notes → Serves (gives_back env p before w)
  back-serves p before w e plain noted = plain-serve (Node n) x.c now (named_records w.service.notes) noted (plain-named w.service.notes plain) e

  turns-serve : (p : NodePart) (w : Work) → now ≡ Some (Node n) → Each IsPlain w.service.notes → Turned Serves env p [] (goes_on env w)
  turns-serve p w e plain = (λ stays. goes-serves p w e plain, λ back. back-serves p [] (goes_on env w) e (goes-notes (Each IsPlain) plain-more env w plain))

  -- it takes a connection first, and then it serves
  takes-serves : (rest : List Rec) → Each IsPlain rest → Each (NotedAt (Node n) x.c) rest → OwnerServes x.c now (took_by env ∷ rest)
  takes-serves rest plain noted = (
    tt,
    subst (λ (b : Bool). OwnerServes x.c (cond b (Some (Node env.n)) now) rest) (sym (same-number env.serve.c x.c is.number))
        (plain-serve (Node n) x.c (Some (Node env.n)) rest noted plain (ap (λ (m : ℕ). Some (Node m)) is.node)),
  )

  begins-serves : (parts : EndpointParts) → Serves (with_work env ours (taken_sent env) (begun_work env parts))
  begins-serves parts noted =
      let all : Begins (took_by env) (serving_settled env.serve (begun_work env parts).service).1.notes = begun-notes env parts in
      let mine : Each (NotedAt (Node n) x.c) (named_records (took_by env ∷ all.0)) = subst (λ (l : List Rec). Each (NotedAt (Node n) x.c) (named_records l)) all.1 noted in
      subst (λ (l : List Rec). OwnerServes x.c now (named_records l)) (sym all.1) (takes-serves (named_records all.0) (plain-named all.0 all.2) mine.1)

  module _ (placed : IsPlaced x) where
    owns : (b : ControlBlock) (s : Stay) → IsHereWith env.epoch ours b s → now ≡ Some (Node n)
    owns b s at = (has-here x placed n env.epoch b s at).owner

    rules_serve : KeptByNode env ours (λ g. Unit {0}) Serves
    rules_serve = record {
      drops = λ noted. tt;
      hears = λ said b s m at. turns-serve ours (work_of (on_segment b said).1 s) (owns b s at) tt;
      tags = λ number tags b s m at asked same count. turns-serve (record ours { kept = without kind.Ask 0 ours.kept }) (tagged env tags (work_of b s))
          (owns b s at) (tagged-notes (Each IsPlain) plain-more env tags (work_of b s) tt);
      comes = λ from r b s m at wanted. turns-serve (record ours { fetches = without kind.Fetch r ours.fetches })
          (came_for (come_progress from) r (work_of b s)) (owns b s at) (came-notes (Each IsPlain) plain-more (come_progress from) r (work_of b s) tt);
      reads = λ r path b s m at. turns-serve ours (came_for read_progress r (work_of b s)) (owns b s at)
          (came-notes (Each IsPlain) plain-more read_progress r (work_of b s) tt);
      begins = λ parts m new may. begins-serves parts;
      takes_again = λ parts m again noted. tt;
      fires = λ b s m at noted. tt;
      resends = λ m none noted. tt;
      refuses = λ parts m is noted. tt;
      ends = λ back m told was noted. tt;
      leaves = λ b s m at back. back-serves ours [] (work_of b s) (owns b s at) tt;
    }

    rule-serves : (g : NodeGets) → IsOfItsEpoch env ours g → Serves (node_rule env ours g)
    rule-serves g at = node-keeps env ours (λ g. Unit {0}) Serves rules_serve g at tt

  by-node : (d : node.NodeDeed) → Serves d → IsItsOwn x (node_does x n heads d) → Known x (node_does x n heads d)
  by-node d serves own = node-known d (serves (node-noted d own))

  -- the record of a job stands before what it leads to
  by-job : (r : ℕ) (path : List ℕ) (d : node.NodeDeed) → Serves d → IsItsOwn x (reads_first (rec.Read n n x.c r path) (node_does x n heads d)) → Known x (reads_first (rec.Read n n x.c r path) (node_does x n heads d))
  by-job r path node.Drops serves own = record { heads = quiet; serves = (tt, serves tt) }
  by-job r path (node.Says messages) serves own = record { heads = quiet; serves = (tt, serves tt) }
  by-job r path (node.Does given) serves own = record { heads = quiet; serves = (tt, serves own.notes.1) }

-- ---- every rule

module _ (k : Setting) where
  clients : ClientRules k Knows
  clients = each-client k Knows (record {
    opens = λ x isn iss wnd mss rule none may own.
        let notes = (client_begins x isn iss wnd mss).said.notes in
        record { heads = (tt, (tt, tt)); serves = silent-serve x.c (tale_at x).owner notes (client-silent x.c x.c notes own.notes) };
    does = λ x s g there comes. client-knows x s (client_seen x.c g) (client_rule x.c s.client g)
        (of-client x.c (Each IsHead) (λ from bytes. (tt, tt)) (λ e. (tt, tt)) g);
  })

  fronts : FrontRules k Knows
  fronts = each-front k Knows (λ x env heads g is comes may. front-known x heads
      (of-front x (Each IsHead) (λ from bytes. (tt, tt)) tt (tt, tt) env heads g comes)
      (front_rule env x.part.front g) (front-serves x env may.given g (admission x env heads g comes)))

  does-known : (x : Conn) (n epoch : ℕ) (env : NodeEnv) (heads : List Seen) (g : NodeGets) → IsNodeEnv k x.c n epoch env → IsOfItsEpoch env (x.part.nodes n) g
      → Each IsHead heads → Knows x (node_goes x n env heads g)
  does-known x n epoch env heads (Completed r path) is at first may own =
      by-job k x heads first n epoch env is r path (node_read env (x.part.nodes n) r)
      (rule-serves k x heads first n epoch env is may.given (Completed r path) at) own
  does-known x n epoch env heads g is at first may own = by-node k x heads first n epoch env is (node_rule env (x.part.nodes n) g)
      (rule-serves k x heads first n epoch env is may.given g at) own

  aside-known : (x : Conn) (n : ℕ) (a : Aside) → Known x (stands x (Node n) (aside_seen n a) (aside_said k n x.c a))
  aside-known x n (Answers from epoch r path file bytes) = record { heads = (tt, tt); serves = tt }
  aside-known x n (Queues from epoch r path file bytes) = record { heads = (tt, tt); serves = (tt, tt) }
  aside-known x n (Brings from epoch r path) = record { heads = tt; serves = (tt, tt) }

  nodes : NodeRules k Knows
  nodes = each-node k Knows (record {
    does = λ x n epoch env heads g is at comes. does-known x n epoch env heads g is at.0 (heads-of IsHead (λ l. tt) (λ m c. tt) x n epoch heads g comes);
    aside = λ x n a rest may own. aside-known x n a;
  })

  pub known : UntouchedRules k Knows
  known = record { client = clients; front = fronts; node = nodes; ignores = λ x from to bytes was may own. record { heads = (tt, tt); serves = tt } }
