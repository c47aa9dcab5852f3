-- Each rule leaves a connection standing as its stage at the front end says.
use Rattle.std.proofs.Common.{◌≡◌, ℕ, ◌^◌, ◌<◌, ◌≤◌, List, [], ◌∷◌, ◌++◌, map, true, false, Option, Some, None, Result, refl, sym, ap, ◌∙◌, subst, arith}
use Rattle.std.specs.List.{fold}
use Rattle.lard_base.specs.declared.event.Event.TheVariants as event
use Rattle.lard_law_view.specs.Prelude.{AskedBy, Client, ClientBlock, ClientRules, Conn, EndedBy, Front, FrontConn, FrontEnv, FrontGets, FrontHears, FrontPart, FrontRow, FrontRules, HasRule, IsFrontEnv, IsLaw, IsUnheard, MayRestOn, Move, Node, NodeRules, Place, Rec, Rules, Said, Seen, SegFault, Setting, Station, ToCluster, Turn, TurnSaid, blank_conn, client_begins, client_does, client_injects, client_rule, decoded, front_does, front_gets, front_rule, grown, inject_seen, node_does, nothing_said, packet_seen, stands, tale_at, timer_rows}
use Rattle.lard_law_view.proofs.EachClient.{client_goes, client_seen, each-client, of-client}
use Rattle.lard_law_view.proofs.EachFront.{FrontComes, admission, each-front}
use Rattle.lard_law_connections.proofs.LineFrontMessages.{IsNoSegment, brings-valid, none-drops, rule-stands}
use Rattle.lard_law_connections.proofs.LineFronts.{DeedStands, RowStands, StageStands, came-out, came_so, counts-alike, gets-stands}
use Rattle.lard_law_view.proofs.NodeHeads.{of-aside, of-heads}
use Rattle.lard_law_connections.proofs.LineStands.{IsAlike, IsElsewhere, Stand, all-same, came_stand, client-behind, node-behind, notes-same, row_step, sends-alike, stand-grown, stand_at, stand_before, stand_behind, stand_step}
use Rattle.lard_law_connections.specs.Places.{Owning, Sits, StageSits, owning}
use Rattle.lard_law_connections.proofs.PlacesRows.{MayOwnBy, OwnsBy, after, after_all}
use Rattle.lard_law_connections.proofs.PlacesLaw.{owing}
use Rattle.lard_law_connections.proofs.PlacesTurns.{IsPlaced, Owes}
use Rattle.lard_law_view.specs.View.{sending}
use Rattle.lard_law_view.proofs.EachNode.{aside_said, aside_seen, each-node, job_notes, told_first}
use Rattle.lard_law_view.proofs.Fine.{IsFine, IsItsOwn, fine}
use Rattle.lard_law_view.proofs.Guarded.{both, weaker}
use Rattle.lard_law_view.proofs.Saying.{AllBetween, NotedAt}
use Rattle.lard_rules.specs.Front as front
use Rattle.lard_handoff_front.specs.declared.row.FrontConn.TheVariants as stage
use Rattle.lard_history.proofs.Each.{Each}
use Rattle.lard_journal.specs.declared.rec.Rec.TheVariants as rec
use Rattle.lard_rules.specs.Node as node

-- Of a connection, touched or not: the cluster's first number is in range, no client that did not open is known, and it stands as its
-- stage says.
pub record IsLined (x : Conn) : Type 0 where
  pub number : (s : Station) → x.part.station ≡ Some s → s.iss < 2 ^ 32
  pub opened : x.part.station ≡ None → x.part.front.row ≡ None
  pub stands : RowStands (stand_at x) x.part.front.row

pub blank-lined : (c : ℕ) → IsLined (blank_conn c)
blank-lined c = record { number = λ s e. let no : None ≡ Some s = e in absurd cc; opened = λ e. refl; stands = record { waits_is = refl; times = omega arith; inside_is = refl } }

-- ---- where another place than the front end acts

-- what is kept at the front end and of the client's number is as it was
pub record IsAside (x : Conn) (v : Move) : Type 0 where
  pub place : IsElsewhere v.place
  pub front : v.part.front ≡ x.part.front
  pub number : (s : Station) → v.part.station ≡ Some s → s.iss < 2 ^ 32
  pub station : v.part.station ≡ None → x.part.station ≡ None
  pub heads : stand_before x v ≡ stand_at x

-- the owner stays, where it is the front end and a node notes
notes-own : (c n : ℕ) (w : Owning) (ns rest : List Rec) → w.owner ≡ Some Front → Each (NotedAt (Node n) c) ns → OwnsBy c w (ns ++ rest) → ((after_all w ns).owner ≡ Some Front) × OwnsBy c (after_all w ns) rest
notes-own c n w [] rest mine noted owns = (mine, owns)
notes-own c n w (r ∷ rs) rest mine noted owns = notes-own c n (after w r) rs rest (one r noted.0 owns.0) noted.1 owns.1 where
  one : (r : Rec) → NotedAt (Node n) c r → MayOwnBy c w r → (after w r).owner ≡ Some Front
  one (rec.Took (Node k) d epoch) h may = let no : Some Front ≡ None = sym mine ∙ may.2 in absurd cc
  one (rec.Served (Node k) d r code size via) h may = mine
  one (rec.Reset (Node k) d total) h may = mine
  one (rec.Queued k o d r path) h may = mine
  one (rec.Read k o d r path) h may = mine
  one (rec.Hit k path) h may = mine
  one _ h may = absurd h

owns-first : (c : ℕ) (w : Owning) (xs ys : List Rec) → OwnsBy c w (xs ++ ys) → OwnsBy c w xs
owns-first c w [] ys h = tt
owns-first c w (x ∷ xs) ys h = (h.0, owns-first c (after w x) xs ys h.1)

module _ (x : Conn) (v : Move) (own : IsItsOwn x v) (owes : Owes x v) (placed : IsPlaced x) where
  abbrev behind : Place → Stand
  behind p = stand_behind x.c p (stand_at x) v.said.notes v.said.segments

  segments-own : OwnsBy x.c (owning (tale_at x)) (v.said.notes ++ map (sending v.place) v.said.segments)
  segments-own =
      let N : List Rec = v.said.notes in
      let S : List Rec = map (sending v.place) v.said.segments in
      let G : List Rec = v.said.gave in
      let M : List Rec = map (sending v.place) v.said.messages in
      let T : List Rec = timer_rows v.place x.c x.part v.part in
      let w : Owning = owning (tale_at x) in
      owns-first x.c w (N ++ S) G (owns-first x.c w (N ++ S ++ G) M (owns-first x.c w (N ++ S ++ G ++ M) T owes.rows))

  -- a node tells nothing to a client that the front end owns
  node-silent : (n : ℕ) → v.place ≡ Node n → (owning (tale_at x)).owner ≡ Some Front → behind (Node n) ≡ stand_at x
  node-silent n at mine =
      let c : ℕ = x.c in
      let w : Owning = owning (tale_at x) in
      let noted : Each (NotedAt (Node n) c) v.said.notes = subst (λ (p : Place). Each (NotedAt p c) v.said.notes) at own.notes in
      let owns = notes-own c n w v.said.notes (map (sending (Node n)) v.said.segments) mine noted (subst (λ (p : Place). OwnsBy c w (v.said.notes ++ map (sending p) v.said.segments)) at segments-own) in
      node-behind c n (after_all w v.said.notes) (fold (row_step c) (stand_at x) v.said.notes) v.said.segments owns.0 owns.1
      ∙ all-same c (stand_at x) v.said.notes (notes-same (Node n) c v.said.notes tt noted)

  node-alike : (n : ℕ) → v.place ≡ Node n → IsAlike (stand_at x) (behind (Node n))
  node-alike n at =
      let noted : Each (NotedAt (Node n) x.c) v.said.notes = subst (λ (p : Place). Each (NotedAt p x.c) v.said.notes) at own.notes in
      let same : fold (row_step x.c) (stand_at x) v.said.notes ≡ stand_at x = all-same x.c (stand_at x) v.said.notes (notes-same (Node n) x.c v.said.notes tt noted) in
      subst (λ (s : Stand). IsAlike s (behind (Node n))) same (sends-alike x.c (Node n) (fold (row_step x.c) (stand_at x) v.said.notes) v.said.segments)

  -- so it stands as it stood
  node-stage : (n : ℕ) → v.place ≡ Node n → (e : ℕ) (at : FrontConn) → StageSits e (owning (tale_at x)) x.part.nodes at → StageStands (stand_at x) at → StageStands (behind (Node n)) at
  node-stage n acts e (stage.Held b) sits h = subst (λ (s : Stand). StageStands s (stage.Held b)) (sym (node-silent n acts (ap (λ (w : Owning). w.owner) sits.1.0))) h
  node-stage n acts e (stage.Waiting b) sits h = subst (λ (s : Stand). StageStands s (stage.Waiting b)) (sym (node-silent n acts (ap (λ (w : Owning). w.owner) sits.1.0))) h
  node-stage n acts e stage.Lent sits h = absurd sits
  node-stage n acts e (stage.Offering m epoch) sits h = counts-alike (stand_at x) (behind (Node n)) false 0 true (node-alike n acts) h
  node-stage n acts e (stage.Moved m epoch) sits h = counts-alike (stand_at x) (behind (Node n)) false 0 true (node-alike n acts) h
  node-stage n acts e (stage.Closed last) sits h = counts-alike (stand_at x) (behind (Node n)) false 1 false (node-alike n acts) h

  node-stands : (n : ℕ) → v.place ≡ Node n → (o : Option FrontRow) → Sits (owning (tale_at x)) x.part.nodes o → RowStands (stand_at x) o → RowStands (behind (Node n)) o
  node-stands n acts None sits h = counts-alike (stand_at x) (behind (Node n)) false 0 false (node-alike n acts) h
  node-stands n acts (Some row) sits h = node-stage n acts row.epoch.0 row.stage sits.0 h

  place-stands : (p : Place) → v.place ≡ p → IsElsewhere p → RowStands (stand_at x) x.part.front.row → RowStands (behind p) x.part.front.row
  place-stands Front at there h = absurd there
  place-stands (Node n) at there h = node-stands n at x.part.front.row placed.sits h
  place-stands (Client d) at there h =
      let noted : Each (NotedAt (Client d) x.c) v.said.notes = subst (λ (p : Place). Each (NotedAt p x.c) v.said.notes) at own.notes in
      let same : behind (Client d) ≡ stand_at x = client-behind x.c d (fold (row_step x.c) (stand_at x) v.said.notes) v.said.segments (subst (λ (p : Place). AllBetween x.c p v.said.segments) at own.segments)
      ∙ all-same x.c (stand_at x) v.said.notes (notes-same (Client d) x.c v.said.notes tt noted) in
      subst (λ (s : Stand). RowStands s x.part.front.row) (sym same) h

  pub aside-lined : IsAside x v → IsLined x → IsLined (grown x v)
  aside-lined a h = record {
    number = a.number;
    opened = λ e. ap (λ (f : FrontPart). f.row) a.front ∙ h.opened (a.station e);
    stands = subst (λ (s : Stand). RowStands s v.part.front.row) (sym (stand-grown x v own))
        (subst (λ (s : Stand). RowStands (stand_behind x.c v.place s v.said.notes v.said.segments) v.part.front.row) (sym a.heads)
        (subst (λ (f : FrontPart). RowStands (behind v.place) f.row) (sym a.front) (place-stands v.place refl a.place h.stands)));
  }

-- ---- where the front end acts

abbrev Lines : Conn → Move → Type 0
Lines x v = IsItsOwn x v → Owes x v → IsPlaced x → IsLined x → IsLined (grown x v)

-- what is behind the heads and a deed
front-lined : (x : Conn) (heads : List Seen) (d : front.FrontDeed) → (IsLined x → x.part.station ≡ None → d ≡ front.Drops)
    → (IsLined x → DeedStands x.c (fold (stand_step x.c) (stand_at x) heads) x.part.front d) → IsItsOwn x (front_does x heads d) → IsLined x → IsLined (grown x (front_does x heads d))
front-lined x heads front.Drops none stood own h = record {
  number = h.number;
  opened = h.opened;
  stands = subst (λ (s : Stand). RowStands s x.part.front.row) (sym (stand-grown x (front_does x heads front.Drops) own)) (stood h);
}
front-lined x heads (front.Says t) none stood own h = record {
  number = h.number;
  opened = h.opened;
  stands = subst (λ (s : Stand). RowStands s x.part.front.row) (sym (stand-grown x (front_does x heads (front.Says t)) own)) (stood h);
}
front-lined x heads (front.Does did) none stood own h = record {
  number = h.number;
  opened = λ e. let no : front.Does did ≡ front.Drops = none h e in absurd cc;
  stands = subst (λ (s : Stand). RowStands s did.part.row) (sym (stand-grown x (front_does x heads (front.Does did)) own)) (stood h);
}

-- ---- every rule

-- it comes from a client
abbrev IsFromClient : Place → Type 0
IsFromClient (Client d) = Unit {0}
IsFromClient _ = ⊥

-- what a client does is aside
begins-aside : (x : Conn) (isn iss wnd mss : ℕ) → HasRule (event.Open x.c isn iss wnd mss) → IsAside x (client_begins x isn iss wnd mss)
begins-aside x isn iss wnd mss rule = record {
  place = tt;
  front = refl;
  number = λ s e. let same : iss ≡ s.iss = cc in subst (λ (n : ℕ). n < 2 ^ 32) same rule.5;
  station = λ e. absurd (cc);
  heads = refl;
}

does-aside : (x : Conn) (s : Station) (heads : List Seen) (given : ClientBlock × Turn) → fold (stand_step x.c) (stand_at x) heads ≡ stand_at x → x.part.station ≡ Some s → IsLined x → IsAside x (client_does x s heads given)
does-aside x s heads given same there h = record {
  place = tt;
  front = refl;
  number = λ t e. let one : s.iss ≡ t.iss = cc in subst (λ (n : ℕ). n < 2 ^ 32) one (h.number s there);
  station = λ e. absurd (cc);
  heads = same;
}

-- and so is what a node does
pub record IsThere (x : Conn) (heads : List Seen) (v : Move) : Type 0 where
  pub place : IsElsewhere v.place
  pub front : v.part.front ≡ x.part.front
  pub station : v.part.station ≡ x.part.station
  pub heads_are : v.heads ≡ heads

pub node-there : (x : Conn) (n : ℕ) (rs : List Rec) (heads : List Seen) (d : node.NodeDeed) → IsThere x heads (told_first rs (node_does x n heads d))
node-there x n rs heads node.Drops = record { place = tt; front = refl; station = refl; heads_are = refl }
node-there x n rs heads (node.Says messages) = record { place = tt; front = refl; station = refl; heads_are = refl }
node-there x n rs heads (node.Does given) = record { place = tt; front = refl; station = refl; heads_are = refl }

there-aside : (x : Conn) (heads : List Seen) (v : Move) → fold (stand_step x.c) (stand_at x) heads ≡ stand_at x → IsThere x heads v → IsLined x → IsAside x v
there-aside x heads v same t h = record {
  place = t.place;
  front = t.front;
  number = λ s e. h.number s (sym t.station ∙ e);
  station = λ e. sym t.station ∙ e;
  heads = ap (fold (stand_step x.c) (stand_at x)) t.heads_are ∙ same;
}

-- a packet that comes and is not heard is of a client that did not open, or takes nobody out of the line
ignored-alike : (s : Stand) (o : Option FrontRow) (c : ℕ) (to from : Place) (bytes : List ℕ) → (IsFromClient from → to ≡ Front → o ≡ None) → RowStands s o → RowStands (came_stand c s to from bytes) o
ignored-alike s o c Front (Client d) bytes none h = subst (RowStands (came_stand c s Front (Client d) bytes)) (sym (none tt refl))
    (let k : RowStands s None = subst (RowStands s) (none tt refl) h in
    let a : IsAlike s (came_so s (decoded bytes c ToCluster)) = came-out s (decoded bytes c ToCluster) k.waits_is in
    record { waits_is = a.waits ∙ k.waits_is; times = k.times; inside_is = k.inside_is })
ignored-alike s o c Front Front bytes none h = h
ignored-alike s o c Front (Node n) bytes none h = h
ignored-alike s o c (Node m) from bytes none h = h
ignored-alike s o c (Client d) from bytes none h = h

pub front-small : (k : Setting) → k.stream ≤ 2 ^ 30 → (c : ℕ) (env : FrontEnv) → IsFrontEnv k c env → env.serve.stream ≤ 2 ^ 30
front-small k small c env is = subst (λ (n : ℕ). n ≤ 2 ^ 30) (sym is.stream) small

module _ (k : Setting) (small : k.stream ≤ 2 ^ 30) where
  aside : (x : Conn) (v : Move) → (IsLined x → IsAside x v) → Lines x v
  aside x v a own owes placed h = aside-lined x v own owes placed (a h) h

  clients : ClientRules k Lines
  clients = each-client k Lines (record {
    opens = λ x isn iss wnd mss rule none. aside x _ (λ h. begins-aside x isn iss wnd mss rule);
    does = λ x s g there comes. aside x (client_goes x s g) (does-aside x s (client_seen x.c g) (client_rule x.c s.client g)
        (of-client x.c (λ heads. fold (stand_step x.c) (stand_at x) heads ≡ stand_at x) (λ from bytes. refl) (λ e. refl) g) there);
  })

  -- it stands behind what is seen first as before
  abbrev StandsAs : Conn → List Seen → Type 0
  StandsAs x heads = fold (stand_step x.c) (stand_at x) heads ≡ stand_at x

  -- behind what is seen first, which tells of it where it is a segment
  seen-stands : (x : Conn) (env : FrontEnv) (heads : List Seen) (g : FrontGets) → IsNoSegment g → FrontComes x env heads g → StandsAs x heads
  seen-stands x env heads (FrontHears bytes given) other comes = absurd other
  seen-stands x env heads (AskedBy n epoch ask) other comes = ap (fold (stand_step x.c) (stand_at x)) comes.told.seen
  seen-stands x env heads (EndedBy n epoch last) other comes = ap (fold (stand_step x.c) (stand_at x)) comes.told.seen
  seen-stands x env heads g other comes = ap (fold (stand_step x.c) (stand_at x)) comes.seen

  front-stands : (x : Conn) (env : FrontEnv) (heads : List Seen) (g : FrontGets) → IsFrontEnv k x.c env → FrontComes x env heads g → IsLined x
      → DeedStands env.serve.c (fold (stand_step x.c) (stand_at x) heads) x.part.front (front_rule env x.part.front g)
  front-stands x env heads (FrontHears bytes given) is comes h =
      let came : ◌≡◌ {A = List Seen × Result Said SegFault} (packet_seen (Client x.c) Front bytes, decoded bytes x.c ToCluster) (heads, given) =
      λ i. (sym comes.seen i, sym comes.read i) in
      subst (λ (q : List Seen × Result Said SegFault).
      DeedStands env.serve.c (fold (stand_step x.c) (stand_at x) q.0) x.part.front (front_gets env x.part.front bytes q.1)) came
      (gets-stands env (front-small k small x.c env is)
      (subst (λ (n : ℕ). n < 2 ^ 32) (sym comes.iss_is) (h.number comes.station comes.there))
      x.part.front (stand_at x) bytes (decoded bytes x.c ToCluster) h.stands)
  front-stands x env heads g is comes h =
      subst (λ (s : Stand). DeedStands env.serve.c s x.part.front (front_rule env x.part.front g)) (sym (seen-stands x env heads g tt comes))
      (rule-stands env (front-small k small x.c env is) x.part.front (stand_at x) h.stands g tt (brings-valid x env heads g comes)
      (admission x env heads g comes))

  -- where its client did not open, nothing is done
  unopened-drops : (x : Conn) (env : FrontEnv) (heads : List Seen) (g : FrontGets) → FrontComes x env heads g → IsLined x → x.part.station ≡ None
      → front_rule env x.part.front g ≡ front.Drops
  unopened-drops x env heads (FrontHears bytes given) comes h none = let no : Some comes.station ≡ None = sym comes.there ∙ none in absurd cc
  unopened-drops x env heads g comes h none = none-drops env x.part.front g tt (admission x env heads g comes) (h.opened none)

  fronts : FrontRules k Lines
  fronts = each-front k Lines (λ x env heads g is comes own owes placed. front-lined x heads (front_rule env x.part.front g)
      (unopened-drops x env heads g comes)
      (λ h. subst (λ (c : ℕ). DeedStands c (fold (stand_step x.c) (stand_at x) heads) x.part.front (front_rule env x.part.front g)) is.number
      (front-stands x env heads g is comes h)) own)

  by-node : (x : Conn) (n : ℕ) (rs : List Rec) (heads : List Seen) (d : node.NodeDeed) → StandsAs x heads → Lines x (told_first rs (node_does x n heads d))
  by-node x n rs heads d same = aside x (told_first rs (node_does x n heads d))
      (there-aside x heads (told_first rs (node_does x n heads d)) same (node-there x n rs heads d))

  said-aside : (x : Conn) (n : ℕ) (heads : List Seen) (said : TurnSaid) → StandsAs x heads → Lines x (stands x (Node n) heads said)
  said-aside x n heads said same = aside x (stands x (Node n) heads said) (there-aside x heads (stands x (Node n) heads said) same (record { place = tt; front = refl; station = refl; heads_are = refl }))

  nodes : NodeRules k Lines
  nodes = each-node k Lines (record {
    does = λ x n epoch env heads g is at comes. by-node x n (job_notes x.c n g) heads (node.node_rule env (x.part.nodes n) g)
        (of-heads x n (StandsAs x) (λ from bytes. refl) refl refl epoch heads g comes);
    aside = λ x n a may. said-aside x n (aside_seen n a) (aside_said k n x.c a) (of-aside x n (StandsAs x) (λ from bytes. refl) refl a);
  })

  ignores-lined : (x : Conn) (from to : Place) (bytes : List ℕ) → IsUnheard k.nodes x.part.station from to bytes → Lines x (stands x to (packet_seen from to bytes) nothing_said)
  ignores-lined x from to bytes unheard own owes placed h = record {
    number = h.number;
    opened = h.opened;
    stands = subst (λ (s : Stand). RowStands s x.part.front.row) (sym (stand-grown x (stands x to (packet_seen from to bytes) nothing_said) own))
        (ignored-alike (stand_at x) x.part.front.row x.c to from bytes (λ client at. h.opened (unopened from to client at unheard)) h.stands);
  }
    where
      unopened : (from to : Place) → IsFromClient from → to ≡ Front → IsUnheard k.nodes x.part.station from to bytes → x.part.station ≡ None
      unopened (Client d) Front client at u = u
      unopened (Client d) (Node n) client at u = let no : Node n ≡ Front = at in absurd cc
      unopened (Client d) (Client e) client at u = let no : Client e ≡ Front = at in absurd cc
      unopened Front to client at u = absurd client
      unopened (Node n) to client at u = absurd client

  lines : Rules k Lines
  lines = record {
    untouched = record { client = clients; front = fronts; node = nodes; ignores = λ x from to bytes was. ignores-lined x from to bytes was.2 };
    injects = λ x s bytes there rule. aside x _ (does-aside x s (inject_seen x.c bytes) (client_injects s.client bytes) refl there);
  }

  pub line-law : IsLaw k IsPlaced IsLined
  line-law = record {
    begins = blank-lined;
    moves = weaker k (λ x v. (MayRestOn IsPlaced x → IsPlaced x → Owes x v) × (IsFine x v × Lines x v)) (λ x v. MayRestOn IsPlaced x → IsLined x → IsLined (grown x v))
        (λ x v h may lined. h.1.1 (h.1.0 may.number may.sound).0 (h.0 may may.given) may.given lined)
        (both k (λ x v. MayRestOn IsPlaced x → IsPlaced x → Owes x v) (λ x v. IsFine x v × Lines x v) (owing k IsPlaced) (both k IsFine Lines (fine k) lines));
  }
