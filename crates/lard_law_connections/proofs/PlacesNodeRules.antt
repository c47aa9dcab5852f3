-- The rules of a node, one by one.
use Rattle.std.proofs.Common.{◌≡◌, ◌≢◌, ◌⊎◌, ℕ, ◌<◌, ◌==◌, ◌&&◌, nat_lt, Bool, true, false, cond, List, [], ◌∷◌, ◌++◌, Option, Some, None, inr, ⊎_elim, refl, sym, ap, ◌∙◌, subst, arith, eqb-true, eq-eqb}
use Rattle.std.proofs.lemmas.Bool.{ltb-true}
use Rattle.lard_law_view.specs.Prelude.{BackConn, BackRow, Client, Conn, ControlBlock, Ending, EndpointParts, Epoch, Front, FrontConn, FrontRow, IsMachine, IsNodeEnv, Node, NodeDeed, NodeEnv, NodePart, Place, Rec, Seen, Setting, Stay, Turn, Work, gives_back, goes_on, here, is_gone, kept_after, named_records, node_begins, node_does, node_put_back, offer_answer, reads_batch, serving_settled, state_of, taken_sent, tale_at, turn_by, with_node, with_work}
use Rattle.lard_law_connections.specs.Places.{IsComing, IsDecided, IsEarlyEpoch, IsEven, IsLeft, IsOfOther, IsOffered, IsPast, IsReachedBy, IsRefusalKnown, IsRowEarly, IsThere, MaySay, Offers, OthersArePast, Owning, Owns, Sits, StageSits, owning}
use Rattle.lard_law_connections.proofs.PlacesFront.{IsQuiet, Tells}
use Rattle.lard_law_connections.proofs.PlacesFrontRules.{there-decided}
use Rattle.lard_law_connections.proofs.PlacesGrowing.{BackGrows, KeepsRefusals}
use Rattle.lard_law_connections.proofs.PlacesHeads.{spelled-head}
use Rattle.lard_law_connections.proofs.PlacesLoops.{batch-state, goes-notes, settled-is}
use Rattle.lard_law_connections.proofs.PlacesNode.{CanSit, gives-owe, node-drops, node-says, rests-owe}
use Rattle.lard_law_connections.proofs.PlacesRows.{IsPlain, OwnsBy, after_all, plain-after, plain-named, plain-owns}
use Rattle.lard_law_connections.proofs.PlacesTurns.{IsPlaced, Owes, early-at}
use Rattle.lard_law_view.proofs.Parts.{put-each, put-same}
use Rattle.lard_handoff_back.specs.Leaving.{exceeds}
use Rattle.lard_handoff_back.specs.declared.row.BackConn.TheVariants as back
use Rattle.lard_handoff_back.specs.declared.table.Adopt.TheVariants.{New, Again, Stale}
use Rattle.lard_handoff_front.specs.declared.row.FrontConn.TheVariants as stage
use Rattle.lard_history.proofs.Each.{Each, Each-append}
use Rattle.lard_journal.specs.declared.rec.Rec.TheVariants as rec
use Rattle.lard_rules.proofs.NodeCases.{IsHereWith, where-here}
use Rattle.lard_rules.proofs.NodeCases as node
use Rattle.lard_rules.specs.Node.{Drops, Says, Does}
use Rattle.lard_law_view.proofs.EndpointSends.{AllTo}

-- ---- where a node's row stands

-- every row of a node is of a small epoch
past-small : (e : ℕ) (o : Option BackRow) (row : BackRow) → IsEarlyEpoch e → o ≡ Some row → IsPast e o → IsEarlyEpoch row.epoch.0
past-small e o row le is h = let past : IsPast e (Some row) = subst (IsPast e) is h in omega (arith, past.0, le)

there-small : (n e : ℕ) (w : Owning) (o : Option BackRow) (row : BackRow) → IsEarlyEpoch e → o ≡ Some row → IsThere n e w o → IsEarlyEpoch row.epoch.0
there-small n e w o row le is h = let there : IsThere n e w (Some row) = subst (IsThere n e w) is h in omega (arith, there.0, le)

-- of the node to which it was offered, or of another one
pub by-node : (n m : ℕ) (P : Type 0) → (m ≡ n → P) → (m ≢ n → P) → P
by-node n m P same other = go (m == n) refl where
  go : (b : Bool) → (m == n) ≡ b → P
  go true e = same (eqb-true m n e)
  go false e = other (λ is. let yes : true ≡ false = sym (eq-eqb m n is) ∙ e in cc)

-- what was refused stays so where its stay is of another epoch still
pub keeps-refusals : (p q : NodePart) → q.beside.refused ≡ p.beside.refused → ((e : ℕ) → IsOfOther e p.row → IsOfOther e q.row) → KeepsRefusals p q
keeps-refusals p q same others e h = (subst (IsReachedBy e) (sym same) h.0, others e h.1)

-- a row that holds an endpoint is not past
pub past-held : (e : ℕ) (o : Option BackRow) (row : BackRow) (b : ControlBlock) → o ≡ Some row → row.stage ≡ back.Here b → IsPast e o → ⊥
past-held e o row b is at h =
    let past : IsPast e (Some row) = subst (IsPast e) is h in subst IsLeft at past.1

module _ (x : Conn) (held : IsPlaced x) where
  abbrev w : Owning
  w = owning (tale_at x)

  abbrev nodes : ℕ → NodePart
  nodes = x.part.nodes

  -- ---- small epochs

  row-small : (n : ℕ) (row : BackRow) → (nodes n).row ≡ Some row → (o : Option FrontRow) → Sits w nodes o → IsRowEarly o → IsEarlyEpoch row.epoch.0
  row-small n row is None h early = past-small 0 (nodes n).row row (omega arith) is (h.1 n)
  row-small n row is (Some f) h early = go f.stage h.0 where
    le : IsEarlyEpoch f.epoch.0
    le = early

    go : (st : FrontConn) → StageSits f.epoch.0 w nodes st → IsEarlyEpoch row.epoch.0
    go (stage.Held b) s = past-small f.epoch.0 (nodes n).row row le is (s.1.1 n)
    go (stage.Waiting b) s = past-small f.epoch.0 (nodes n).row row le is (s.1.1 n)
    go stage.Lent s = absurd s
    go (stage.Offering m d) s = by-node m n (IsEarlyEpoch row.epoch.0)
        (λ same. ⊎_elim
        (λ (coming : IsComing f.epoch.0 w (nodes m).row). past-small f.epoch.0 (nodes m).row row le (subst (λ (j : ℕ). (nodes j).row ≡ Some row) same is) coming.2)
        (λ (there : IsThere m f.epoch.0 w (nodes m).row). there-small m f.epoch.0 w (nodes m).row row le (subst (λ (j : ℕ). (nodes j).row ≡ Some row) same is) there) s.3)
        (λ other. past-small f.epoch.0 (nodes n).row row le is (s.2 n other))
    go (stage.Moved m d) s = by-node m n (IsEarlyEpoch row.epoch.0)
        (λ same. there-small m f.epoch.0 w (nodes m).row row le (subst (λ (j : ℕ). (nodes j).row ≡ Some row) same is) s.3)
        (λ other. past-small f.epoch.0 (nodes n).row row le is (s.2 n other))
    go (stage.Closed last) s = past-small f.epoch.0 (nodes n).row row le is (s.1.1 n)

  -- ---- a node that has the connection

  -- node n owns it, and it may go on to sit there
  pub record HasIt (n e : ℕ) : Type 0 where
    pub can : CanSit x n e
    pub owner : w.owner ≡ Some (Node n)
    pub epoch : w.epoch ≡ e

  others-put : (n e : ℕ) (q : NodePart) → OthersArePast n e nodes → OthersArePast n e (node_put_back nodes n q)
  others-put n e q others m other = put-each nodes n q (λ j r. j ≢ n → IsPast e r.row) (λ same. absurd (same refl)) (λ j no yes. others j yes) m other

  -- what holds of node n where it is put back in this epoch
  put-there : (n e : ℕ) (v : Owning) (q : NodePart) (st : BackConn) → q.row ≡ Some (record { stage = st; epoch = record { 0 = e } }) → Owns n st v.owner → v.epoch ≡ e → IsThere n e v (node_put_back nodes n q n).row
  put-there n e v q st is owns epoch =
      subst (λ (r : NodePart). IsThere n e v r.row) (sym (put-same nodes n q)) (subst (IsThere n e v) (sym is) (refl, epoch, owns))

  offering-sits : (f : FrontRow) (n e : ℕ) → x.part.front.row ≡ Some f → (st : FrontConn) → f.stage ≡ st → StageSits f.epoch.0 w nodes st → f.epoch.0 ≡ e → OthersArePast n e nodes
      → ((v : Owning) (ps : ℕ → NodePart) → OthersArePast n f.epoch.0 ps → IsThere n f.epoch.0 v (ps n).row → StageSits f.epoch.0 v ps st)
      → (v : Owning) (q : NodePart) (b : BackConn) → q.row ≡ Some (record { stage = b; epoch = record { 0 = e } }) → Owns n b v.owner → v.epoch ≡ e → Sits v (node_put_back nodes n q) x.part.front.row
  offering-sits f n e found st at s same others make v q b is owns epoch =
      subst (Sits v (node_put_back nodes n q)) (sym found) (
        subst (StageSits f.epoch.0 v (node_put_back nodes n q)) (sym at) (make v (node_put_back nodes n q)
            (subst (λ (d : ℕ). OthersArePast n d (node_put_back nodes n q)) (sym same) (others-put n e q others))
            (subst (λ (d : ℕ). IsThere n d v (node_put_back nodes n q n).row) (sym same) (put-there n e v q b is owns epoch))),
        let h : Sits w nodes (Some f) = subst (Sits w nodes) found held.sits in h.1,
      )

  has-there : (f : FrontRow) (n : ℕ) (row : BackRow) (b : ControlBlock) → x.part.front.row ≡ Some f → (nodes n).row ≡ Some row → row.stage ≡ back.Here b → (st : FrontConn) → f.stage ≡ st
      → StageSits f.epoch.0 w nodes st → IsEven f.epoch.0 → IsEarlyEpoch f.epoch.0 → OthersArePast n f.epoch.0 nodes → IsThere n f.epoch.0 w (nodes n).row
      → ((v : Owning) (ps : ℕ → NodePart) → OthersArePast n f.epoch.0 ps → IsThere n f.epoch.0 v (ps n).row → StageSits f.epoch.0 v ps st) → HasIt n row.epoch.0
  has-there f n row b found is at st stage_is s even early others there make =
      let t : IsThere n f.epoch.0 w (Some row) = subst (IsThere n f.epoch.0 w) is there in
      let owns : w.owner ≡ Some (Node n) = subst (λ (c : BackConn). Owns n c w.owner) at t.2 in
      let past : OthersArePast n row.epoch.0 nodes = subst (λ (d : ℕ). OthersArePast n d nodes) (sym t.0) others in
      record {
        can = record {
          even = subst IsEven (sym t.0) even;
          early = subst IsEarlyEpoch (sym t.0) early;
          sits = offering-sits f n row.epoch.0 found st stage_is s (sym t.0) past make;
          grows = λ c. subst (λ (o : Option BackRow). BackGrows o (Some (record { stage = c; epoch = record { 0 = row.epoch.0 } }))) (sym is)
              (omega arith, λ same left. absurd (subst IsLeft at left));
          refusals = λ q c put same. keeps-refusals (nodes n) q same (λ e other. subst (IsOfOther e) (sym put) (subst (IsOfOther e) is other));
        };
        owner = owns;
        epoch = t.1 ∙ sym t.0;
      }

  pub has-at : (n : ℕ) (row : BackRow) (b : ControlBlock) → (nodes n).row ≡ Some row → row.stage ≡ back.Here b → (o : Option FrontRow) → x.part.front.row ≡ o → HasIt n row.epoch.0
  has-at n row b is at None found =
      let h : Sits w nodes None = subst (Sits w nodes) found held.sits in absurd (past-held 0 (nodes n).row row b is at (h.1 n))
  has-at n row b is at (Some f) found = go f.stage refl (let h : Sits w nodes (Some f) = subst (Sits w nodes) found held.sits in h.0) where
    no : (e : ℕ) → IsPast e (nodes n).row → ⊥
    no e past = past-held e (nodes n).row row b is at past

    go : (st : FrontConn) → f.stage ≡ st → StageSits f.epoch.0 w nodes st → HasIt n row.epoch.0
    go (stage.Held c) e s = absurd (no f.epoch.0 (s.1.1 n))
    go (stage.Waiting c) e s = absurd (no f.epoch.0 (s.1.1 n))
    go stage.Lent e s = absurd s
    go (stage.Offering m d) e s = by-node m n (HasIt n row.epoch.0)
        (λ same. ⊎_elim
        (λ (coming : IsComing f.epoch.0 w (nodes m).row). absurd (no f.epoch.0 (subst (λ (j : ℕ). IsPast f.epoch.0 (nodes j).row) (sym same) coming.2)))
        (λ (there : IsThere m f.epoch.0 w (nodes m).row). has-there f n row b found is at (stage.Offering m d) e s s.0 (early-at x held f found) (subst (λ (j : ℕ). OthersArePast j f.epoch.0 nodes) (sym same) s.2)
        (subst (λ (j : ℕ). IsThere j f.epoch.0 w (nodes j).row) (sym same) there)
        (λ v ps others at_n. (s.0, s.1, subst (λ (j : ℕ). OthersArePast j f.epoch.0 ps) same others, inr (subst (λ (j : ℕ). IsThere j f.epoch.0 v (ps j).row) same at_n)))) s.3)
        (λ other. absurd (no f.epoch.0 (s.2 n other)))
    go (stage.Moved m d) e s = by-node m n (HasIt n row.epoch.0)
        (λ same. has-there f n row b found is at (stage.Moved m d) e s s.0 (early-at x held f found) (subst (λ (j : ℕ). OthersArePast j f.epoch.0 nodes) (sym same) s.2)
        (subst (λ (j : ℕ). IsThere j f.epoch.0 w (nodes j).row) (sym same) s.3)
        (λ v ps others at_n. (s.0, s.1, subst (λ (j : ℕ). OthersArePast j f.epoch.0 ps) same others, subst (λ (j : ℕ). IsThere j f.epoch.0 v (ps j).row) same at_n)))
        (λ other. absurd (no f.epoch.0 (s.2 n other)))
    go (stage.Closed last) e s = absurd (no f.epoch.0 (s.1.1 n))

  -- an endpoint that is here in this epoch
  pub has-here : (n e : ℕ) (b : ControlBlock) (s : Stay) → IsHereWith e (nodes n) b s → HasIt n e
  has-here n e b s at = subst (HasIt n) at.epoch_is (has-at n at.row b at.found at.staged x.part.front.row refl)

  pub here-has : (n e : ℕ) (b : ControlBlock) (s : Stay) → here e (nodes n) ≡ Some (b, s) → HasIt n e
  here-has n e b s h = where-here e (nodes n) (λ o. o ≡ Some (b, s) → HasIt n e)
      (λ none. let no : ◌≡◌ {A = Option (ControlBlock × Stay)} None (Some (b, s)) = none in absurd cc) (λ c t at same. has-here n e c t at) h

-- ---- the rules

-- where an Offer of this epoch is new, what the node had was of an earlier one
pub new-below : (e : ℕ) (row : BackRow) → offer_answer e (Some row) ≡ New → row.epoch.0 < e
new-below e row = go (row.epoch.0 == e) (nat_lt row.epoch.0 e) (is_gone row.stage) (ltb-true row.epoch.0 e) where
  go : (a b c : Bool) → (b ≡ true → row.epoch.0 < e) → cond a Again (cond (b && c) New Stale) ≡ New → row.epoch.0 < e
  go true b c h is = let no : Again ≡ New = is in absurd cc
  go false true c h is = h refl
  go false false c h is = let no : Stale ≡ New = is in absurd cc

-- so it was not decided
pub not-decided : (e : ℕ) (o : Option BackRow) → offer_answer e o ≡ New → IsDecided e o → ⊥
not-decided e None is h = h
not-decided e (Some row) is h = let less : row.epoch.0 < e = new-below e row is in omega (arith, less, h)

-- and where it is answered again, it was, in this epoch
decided-again : (e : ℕ) (o : Option BackRow) → offer_answer e o ≡ Again → (row : BackRow) × (o ≡ Some row) × (row.epoch.0 ≡ e)
decided-again e None is = let no : New ≡ Again = is in absurd cc
decided-again e (Some row) is = go (row.epoch.0 == e) (nat_lt row.epoch.0 e && is_gone row.stage) (eqb-true row.epoch.0 e) is where
  go : (a b : Bool) → (a ≡ true → row.epoch.0 ≡ e) → cond a Again (cond b New Stale) ≡ Again → (r : BackRow) × (Some row ≡ Some r) × (r.epoch.0 ≡ e)
  go true b h f = (row, refl, h refl)
  go false true h f = let no : New ≡ Again = f in absurd cc
  go false false h f = let no : Stale ≡ Again = f in absurd cc

-- this record, and plain ones behind it
abbrev pub Begins : Rec → List Rec → Type 0
Begins r ns = (rest : List Rec) × (ns ≡ r ∷ rest) × Each IsPlain rest

begins-more : (r : Rec) (ns rs : List Rec) → Each IsPlain rs → Begins r ns → Begins r (ns ++ rs)
begins-more r ns rs plain b = (b.0 ++ rs, ap (λ (l : List Rec). l ++ rs) b.1, Each-append IsPlain b.0 rs b.2 plain)

pub plain-more : (ns rs : List Rec) → Each IsPlain rs → Each IsPlain ns → Each IsPlain (ns ++ rs)
plain-more ns rs plain h = Each-append IsPlain ns rs h plain

-- what a node does where it takes a connection
abbrev pub begun_work : NodeEnv → EndpointParts → Work
begun_work env parts = goes_on env (state_of (reads_batch env true (node_begins env parts)))

abbrev pub took_by : NodeEnv → Rec
took_by env = rec.Took (Node env.n) env.serve.c (record { 0 = env.epoch })

-- it notes that it took it, and then what is plain
pub begun-notes : (env : NodeEnv) (parts : EndpointParts) → Begins (took_by env) (serving_settled env.serve (begun_work env parts).service).1.notes
begun-notes env parts =
    let first : Work = node_begins env parts in
    let all : Begins (took_by env) (begun_work env parts).service.notes =
    goes-notes (Begins (took_by env)) (begins-more (took_by env)) env (state_of (reads_batch env true first))
    (batch-state (Begins (took_by env)) (begins-more (took_by env)) env true first refl ([], refl, tt)) in
    (all.0, (settled-is env.serve (begun_work env parts).service).notes ∙ all.1, all.2)

module _ (k : Setting) (x : Conn) (heads : List Seen) (quiet : IsQuiet x heads) (held : IsPlaced x) (n epoch : ℕ) (env : NodeEnv) (is : IsNodeEnv k x.c n epoch env) where
  abbrev ours : NodePart
  ours = x.part.nodes n

  abbrev owned : Owning
  owned = owning (tale_at x)

  abbrev Owed : NodeDeed → Type 0
  Owed d = Owes x (node_does x n heads d)

  pub dropped : Owed Drops
  dropped = node-drops x heads quiet held n

  -- a turn of a connection that is here
  pub turn-owes : HasIt x held n env.epoch → (part : NodePart) → part.beside ≡ ours.beside
      → (before : List (Place × List ℕ)) (work : Work) (given : Ending × Turn) → Each IsPlain given.1.notes → AllTo (Client env.serve.c) given.1.segments
      → Each (λ m. IsMachine m.0) before
      → ((q : NodePart) (st : BackConn) → q.row ≡ Some (record { stage = st; epoch = record { 0 = env.epoch } }) → q.beside ≡ ours.beside → Each (Tells (with_node x.part n q) (Node n)) before)
      → Owed (Does (kept_after env part work given.0, turn_by env before work given))
  turn-owes has part same before work given plain to machines tells =
      let notes : Each IsPlain (named_records given.1.notes) = plain-named given.1.notes plain in
      rests-owe x heads quiet n env is.number is.node has.can part same before work given owned has.owner has.epoch
      (plain-owns x.c owned (named_records given.1.notes) notes) (plain-after owned (named_records given.1.notes) notes) to machines tells

  works-owe : HasIt x held n env.epoch → (part : NodePart) → part.beside ≡ ours.beside → (work : Work) → Each IsPlain work.service.notes
      → Owed (with_work env part [] work)
  works-owe has part same work plain =
      let done = settled-is env.serve work.service in
      turn-owes has part same [] work (serving_settled env.serve work.service) (subst (Each IsPlain) (sym done.notes) plain) done.to tt (λ q st e f. tt)

  pub goes-owe : HasIt x held n env.epoch → (part : NodePart) → part.beside ≡ ours.beside → (work : Work) → Each IsPlain work.service.notes
      → Owed (with_work env part [] (goes_on env work))
  goes-owe has part same work plain = works-owe has part same (goes_on env work) (goes-notes (Each IsPlain) plain-more env work plain)

  -- and one that goes back
  pub backs-owe : HasIt x held n env.epoch → (part : NodePart) → part.beside ≡ ours.beside → (work : Work) → Each IsPlain work.service.notes
      → Owed (gives_back env part [] work)
  backs-owe has part same work plain =
      let notes : Each IsPlain (named_records work.service.notes) = plain-named work.service.notes plain in
      gives-owe x heads quiet n env is.number is.node has.can part same [] work owned has.owner has.epoch
      (plain-owns x.c owned (named_records work.service.notes) notes) (plain-after owned (named_records work.service.notes) notes) tt (λ q st e f. tt)

  pub goes-turned : HasIt x held n env.epoch → (part : NodePart) → part.beside ≡ ours.beside → (work : Work) → Each IsPlain work.service.notes
      → node.Turned Owed env part [] (goes_on env work)
  goes-turned has part same work plain =
      let noted : Each IsPlain (goes_on env work).service.notes = goes-notes (Each IsPlain) plain-more env work plain in
      (λ rests. works-owe has part same (goes_on env work) noted, λ back. backs-owe has part same (goes_on env work) noted)

  -- ---- an Offer

  -- the node takes it, where it was on its way to it
  took-owes : (parts : EndpointParts) → CanSit x n env.epoch → owned.owner ≡ None → owned.epoch < env.epoch → Owed (with_work env ours (taken_sent env) (begun_work env parts))
  took-owes parts can free before =
      let work : Work = begun_work env parts in
      let given : Ending × Turn = serving_settled env.serve work.service in
      let all : Begins (took_by env) given.1.notes = begun-notes env parts in
      let plain : Each IsPlain (named_records all.0) = plain-named all.0 all.2 in
      let u : Owning = record { owner = Some (Node env.n); epoch = env.epoch } in
      rests-owe x heads quiet n env is.number is.node can ours refl (taken_sent env) work given u (ap (λ (m : ℕ). Some (Node m)) is.node) refl
      (subst (λ (l : List Rec). OwnsBy x.c owned (named_records l)) (sym all.1) ((is.number, before, free), plain-owns x.c u (named_records all.0) plain))
      (subst (λ (l : List Rec). after_all owned (named_records l) ≡ u) (sym all.1) (plain-after u (named_records all.0) plain))
      (settled-is env.serve work.service).to (tt, tt)
      (λ q st row same. (
        subst (λ h. MaySay (with_node x.part n q) (Node n) Front h) (sym (spelled-head _ (omega (arith, can.early))))
            (subst (λ (r : NodePart). IsDecided env.epoch r.row) (sym (put-same x.part.nodes n q)) (subst (IsDecided env.epoch) (sym row) (omega arith))),
        tt,
      ))

  -- an Offer of this epoch that is on its way to this node, where nothing was decided
  comes-owe : (parts : EndpointParts) (f : FrontRow) (d : Epoch) → x.part.front.row ≡ Some f → f.stage ≡ stage.Offering n d → d.0 ≡ env.epoch
      → (IsDecided env.epoch ours.row → ⊥) → exceeds env.epoch ours.beside.refused ≡ true
      → Owed (with_work env ours (taken_sent env) (begun_work env parts))
  comes-owe parts f d found at same undecided above =
      let h : Sits owned x.part.nodes (Some f) = subst (Sits owned x.part.nodes) found held.sits in
      let s : StageSits f.epoch.0 owned x.part.nodes (stage.Offering n d) = subst (StageSits f.epoch.0 owned x.part.nodes) at h.0 in
      let now : f.epoch.0 ≡ env.epoch = sym s.1 ∙ same in
      let coming : IsComing f.epoch.0 owned ours.row = ⊎_elim (λ (c : IsComing f.epoch.0 owned ours.row). c)
      (λ (there : IsThere n f.epoch.0 owned ours.row). absurd
      (undecided (subst (λ (e : ℕ). IsDecided e ours.row) now (there-decided n f.epoch.0 owned x.part.nodes s.2 ours.row there)))) s.3 in
      let others : OthersArePast n env.epoch x.part.nodes = subst (λ (e : ℕ). OthersArePast n e x.part.nodes) now s.2 in
      took-owes parts
      (record {
        even = subst IsEven now s.0;
        early = subst IsEarlyEpoch now (early-at x held f found);
        sits = offering-sits x held f n env.epoch found (stage.Offering n d) at s now others (λ v ps past there. (s.0, s.1, past, inr there));
        grows = λ st. fresh ours.row st (subst (λ (e : ℕ). IsPast e ours.row) now coming.2);
        refusals = λ q st put kept e h. (subst (IsReachedBy e) (sym kept) h.0, subst (IsOfOther e) (sym put) (later ours.beside.refused e above h.0));
      })
      coming.0 (omega (arith, coming.1, now)) where
        fresh : (o : Option BackRow) (st : BackConn) → IsPast env.epoch o → BackGrows o (Some (record { stage = st; epoch = record { 0 = env.epoch } }))
        fresh None st past = tt
        fresh (Some row) st past = (omega (arith, past.0), λ same. absurd (omega (arith, past.0, same)))

        later : (o : Option Epoch) (e : ℕ) → exceeds env.epoch o ≡ true → IsReachedBy e o → env.epoch ≢ e
        later None e more h = absurd h
        later (Some d) e more h = λ same. let less : d.0 < env.epoch = ltb-true d.0 env.epoch more in absurd (omega (arith, less, h, same))

  -- what an Offer that came says
  abbrev pub IsSaid : Type 0
  IsSaid = IsDecided env.epoch ours.row ⊎ (IsOffered n env.epoch x.part.front.row ⊎ IsRefusalKnown x.part n env.epoch)

  -- what exceeds each epoch that was refused was not refused
  above-refused : (o : Option Epoch) → exceeds env.epoch o ≡ true → IsReachedBy env.epoch o → ⊥
  above-refused None more h = h
  above-refused (Some d) more h = let less : d.0 < env.epoch = ltb-true d.0 env.epoch more in omega (arith, less, h)

  pub begins-owe : (parts : EndpointParts) → IsSaid → offer_answer env.epoch ours.row ≡ New → exceeds env.epoch ours.beside.refused ≡ true
      → Owed (with_work env ours (taken_sent env) (begun_work env parts))
  begins-owe parts said new above = by-row x.part.front.row refl
      (⊎_elim (λ (d : IsDecided env.epoch ours.row). absurd (undecided d))
      (⊎_elim (λ (o : IsOffered n env.epoch x.part.front.row). o)
      (λ (known : IsRefusalKnown x.part n env.epoch). absurd (above-refused ours.beside.refused above known.0.0))) said) where
        undecided : IsDecided env.epoch ours.row → ⊥
        undecided = not-decided env.epoch ours.row new

        at-stage : (f : FrontRow) → x.part.front.row ≡ Some f → (st : FrontConn) → f.stage ≡ st → Offers n env.epoch st
            → Owed (with_work env ours (taken_sent env) (begun_work env parts))
        at-stage f found (stage.Offering m d) at offers = comes-owe parts f d found (subst (λ (j : ℕ). f.stage ≡ stage.Offering j d) offers.0 at) offers.1 undecided above
        at-stage f found _ at offers = absurd offers

        by-row : (o : Option FrontRow) → x.part.front.row ≡ o → IsOffered n env.epoch o
            → Owed (with_work env ours (taken_sent env) (begun_work env parts))
        by-row None found offered = absurd offered
        by-row (Some f) found offered = at-stage f found f.stage refl offered

  -- told again: the node has decided
  pub again-owe : offer_answer env.epoch ours.row ≡ Again → Owed (Says (taken_sent env))
  again-owe again =
      let row = decided-again env.epoch ours.row again in
      let le : IsEarlyEpoch row.0.epoch.0 = row-small x held n row.0 row.1 x.part.front.row held.sits held.early in
      node-says x heads quiet held n (taken_sent env) (tt, tt) (
        subst (λ h. MaySay x.part (Node n) Front h) (sym (spelled-head _ (omega (arith, row.2, le))))
            (subst (IsDecided env.epoch) (sym row.1) (omega (arith, row.2))),
        tt,
      )
