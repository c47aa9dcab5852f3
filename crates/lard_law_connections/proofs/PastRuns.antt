-- An epoch is of one node, and a node tells the end of a stay only where that is known: each rule keeps it, so it is in every run.
use Rattle.std.proofs.Common.{◌≡◌, ◌⊎◌, ℕ, List, Option, Some, None, refl, sym, ap, ◌∙◌, subst, inl, inr, ⊎_elim, arith}
use Rattle.lard_law_view.specs.Prelude.{BackConn, BackRow, Conn, Epoch, FrontConn, FrontRow, IsLaw, MayRestOn, Move, NodePart, Rec, Setting, gone, grown, node_put_back, setting, tale_at, with_leaving}
use Rattle.lard_law_connections.specs.Past.{AtFront, AtNode, DecidedIn, EndsAreOfStays, EpochsAreOfOneNode, Over, RowTells, StageTells, Whereabouts, stage_whereabouts, whereabouts, whereabouts_of}
use Rattle.lard_law_connections.specs.PastLaws.{EachEndIsOfItsStay, EachEpochIsOfOneNode}
use Rattle.lard_law_connections.proofs.PastMoves.{Ends, Forgets, FromHere, FrontGoes, Goes, InFront, InNode, IsThere, NodeGoes, Remains, Returns, Stays, going}
use Rattle.lard_law_connections.proofs.PlacesRuns.{each-placed}
use Rattle.lard_law_connections.proofs.PlacesTurns.{IsPlaced}
use Rattle.lard_law_connections.specs.Places.{IsPast, OthersArePast, Owning, Sits, StageSits, owning}
use Rattle.lard_law_view.proofs.Carried.{carried}
use Rattle.lard_law_view.proofs.Guarded.{weaker}
use Rattle.lard_law_view.proofs.Parts.{put-each}
use Rattle.lard_handoff_back.specs.declared.row.BackConn.TheVariants as back
use Rattle.lard_handoff_front.specs.declared.row.FrontConn.TheVariants as stage
use Rattle.lard_history.proofs.Seeing.{by_number}

-- ---- where a node has it

-- what was decided in an epoch is not past it
past-decided : (e : ℕ) (o : Option BackRow) → IsPast e o → DecidedIn e o → ⊥
past-decided e None past h = h
past-decided e (Some row) past h = omega (arith, past.0, h)

decided-same : (d e : ℕ) (o : Option BackRow) → DecidedIn d o → DecidedIn e o → d ≡ e
decided-same d e None h k = absurd h
decided-same d e (Some row) h k = sym h ∙ k

-- every other node is past the epoch in which it is at this one
pub others-past : (x : Conn) → IsPlaced x → (n d : ℕ) → whereabouts_of x ≡ AtNode n d → OthersArePast n d x.part.nodes
others-past x placed n d at = by-row x.part.front.row at placed.sits where
  w : Owning
  w = owning (tale_at x)

  by-stage : (e : ℕ) (by : Option Epoch) (st : FrontConn) → stage_whereabouts by st ≡ AtNode n d → StageSits e w x.part.nodes st → OthersArePast n d x.part.nodes
  by-stage e by (stage.Offering m i) is h =
      let node : m ≡ n = cc in let epoch : i.0 ≡ d = cc in
      subst (λ (j : ℕ). OthersArePast j d x.part.nodes) node (subst (λ (j : ℕ). OthersArePast m j x.part.nodes) (sym h.1 ∙ epoch) h.2)
  by-stage e by (stage.Moved m i) is h =
      let node : m ≡ n = cc in let epoch : i.0 ≡ d = cc in
      subst (λ (j : ℕ). OthersArePast j d x.part.nodes) node (subst (λ (j : ℕ). OthersArePast m j x.part.nodes) (sym h.1 ∙ epoch) h.2)
  by-stage e by (stage.Held b) is h = absurd cc
  by-stage e by (stage.Waiting b) is h = absurd cc
  by-stage e by stage.Lent is h = absurd h
  by-stage e by (stage.Closed last) is h = absurd cc

  by-row : (o : Option FrontRow) → whereabouts o ≡ AtNode n d → Sits w x.part.nodes o → OthersArePast n d x.part.nodes
  by-row None is h = absurd cc
  by-row (Some row) is h = by-stage row.epoch.0 row.ended_by row.stage is h.0

-- ---- epochs

forgets-decided : (e : ℕ) (o : Option BackRow) → DecidedIn e (gone o) → DecidedIn e o
forgets-decided e None h = h
forgets-decided e (Some row) h = h

module _ (x : Conn) (placed : IsPlaced x) (n : ℕ) (q : NodePart) (goes : NodeGoes n (whereabouts_of x) (x.part.nodes n).row q.row) where
  abbrev nodes : ℕ → NodePart
  nodes = x.part.nodes

  -- what a node decided then was decided before, or it is this node, and all others are past that epoch
  abbrev Was : ℕ → ℕ → Type 0
  Was m e = DecidedIn e (nodes m).row ⊎ ((m ≡ n) × OthersArePast n e nodes)

  mine : (e : ℕ) → NodeGoes n (whereabouts_of x) (nodes n).row q.row → DecidedIn e q.row → Was n e
  mine e (IsThere d at decided) h = inr (refl, subst (λ (i : ℕ). OthersArePast n i nodes) (decided-same d e q.row decided h) (others-past x placed n d at))
  mine e (Forgets is) h = inl (forgets-decided e (nodes n).row (subst (DecidedIn e) is h))
  mine e (Remains is) h = inl (subst (DecidedIn e) is h)

  was : (m e : ℕ) → DecidedIn e (node_put_back nodes n q m).row → Was m e
  was m e = put-each nodes n q (λ k p. DecidedIn e p.row → Was k e) (mine e goes) (λ k other h. inl h) m

  -- it is node n that decided it before, or its epoch is past
  both : (a b e : ℕ) → DecidedIn e (nodes a).row → b ≡ n → OthersArePast n e nodes → a ≡ b
  both a b e h is past = by_number (a ≡ b) a n (λ same. same ∙ sym is) (λ other. absurd (past-decided e (nodes a).row (past a other) h))

  node-epochs : EpochsAreOfOneNode x → (a b e : ℕ) → DecidedIn e (node_put_back nodes n q a).row → DecidedIn e (node_put_back nodes n q b).row → a ≡ b
  node-epochs one a b e h k = ⊎_elim
      (λ (old : DecidedIn e (nodes a).row). ⊎_elim
      (λ (too : DecidedIn e (nodes b).row). one a b e old too)
      (λ (now : (b ≡ n) × OthersArePast n e nodes). both a b e old now.0 now.1)
      (was b e k))
      (λ (now : (a ≡ n) × OthersArePast n e nodes). ⊎_elim
      (λ (old : DecidedIn e (nodes b).row). sym (both b a e old now.0 now.1))
      (λ (too : (b ≡ n) × OthersArePast n e nodes). now.0 ∙ sym too.0)
      (was b e k))
      (was a e h)

move-epochs : (x : Conn) (v : Move) → IsPlaced x → Goes x v → EpochsAreOfOneNode x → EpochsAreOfOneNode (grown x v)
move-epochs x v placed (InFront same goes) one a b e h k = one a b e
    (subst (λ (nodes : ℕ → NodePart). DecidedIn e (nodes a).row) same h) (subst (λ (nodes : ℕ → NodePart). DecidedIn e (nodes b).row) same k)
move-epochs x v placed (InNode n q front same goes) one a b e h k = node-epochs x placed n q goes one a b e
    (subst (λ (nodes : ℕ → NodePart). DecidedIn e (nodes a).row) same h) (subst (λ (nodes : ℕ → NodePart). DecidedIn e (nodes b).row) same k)

-- ---- ends

module _ (n : ℕ) where
  -- no end is told where the front end has it
  none-ends : (o : Option BackRow) (at : Whereabouts) → RowTells n o AtFront → RowTells n o at
  none-ends None at h = tt
  none-ends (Some row) at h = go row.stage h where
    go : (c : BackConn) → StageTells n row.epoch.0 c AtFront → StageTells n row.epoch.0 c at
    go back.Ended k = absurd k
    go _ k = tt

  -- the stay is over by the end of its epoch
  over-ends : (o : Option BackRow) (m e : ℕ) → RowTells n o (AtNode m e) → RowTells n o (Over (Some (record { 0 = e })))
  over-ends None m e h = tt
  over-ends (Some row) m e h = go row.stage h where
    go : (c : BackConn) → StageTells n row.epoch.0 c (AtNode m e) → StageTells n row.epoch.0 c (Over (Some (record { 0 = e })))
    go back.Ended k = λ i. Some (record { 0 = k.1 i })
    go _ k = tt

  -- it comes back from a node that did not take it
  back-ends : (o : Option BackRow) (m e : ℕ) → (m ≡ n → IsPast e o) → RowTells n o (AtNode m e) → RowTells n o AtFront
  back-ends None m e past h = tt
  back-ends (Some row) m e past h = go row.stage h where
    go : (c : BackConn) → StageTells n row.epoch.0 c (AtNode m e) → StageTells n row.epoch.0 c AtFront
    go back.Ended k = let less = (past k.0).0 in let same = k.1 in omega (arith, less, same)
    go _ k = tt

  module _ (c : ℕ) (nodes : ℕ → NodePart) (o q : Whereabouts) (ns : List Rec) where
    abbrev Tells : Whereabouts → Type 0
    Tells at = RowTells n (nodes n).row at

    front-ends : FrontGoes c nodes o q ns → Tells o → Tells q
    front-ends (Stays is) h = subst Tells (sym is) h
    front-ends (FromHere here goes) h = none-ends (nodes n).row q (subst Tells here h)
    front-ends (Ends m e at is) h = subst Tells (sym is) (over-ends (nodes n).row m e (subst Tells at h))
    front-ends (Returns m e at past goes) h =
        none-ends (nodes n).row q (back-ends (nodes n).row m e (λ same. subst (λ (i : ℕ). IsPast e (nodes i).row) same past) (subst Tells at h))

  -- of a stay in the epoch in which it is there
  there-ends : (o : Option BackRow) (e : ℕ) → DecidedIn e o → RowTells n o (AtNode n e)
  there-ends None e h = tt
  there-ends (Some row) e h = go row.stage where
    go : (c : BackConn) → StageTells n row.epoch.0 c (AtNode n e)
    go back.Ended = (refl, sym h)
    go _ = tt

  forgets-ends : (o : Option BackRow) (at : Whereabouts) → RowTells n (gone o) at
  forgets-ends None at = tt
  forgets-ends (Some row) at = tt

  node-ends : (at : Whereabouts) (o q : Option BackRow) → NodeGoes n at o q → RowTells n o at → RowTells n q at
  node-ends at o q (IsThere e is decided) h = subst (RowTells n q) (sym is) (there-ends q e decided)
  node-ends at o q (Forgets is) h = subst (λ (r : Option BackRow). RowTells n r at) (sym is) (forgets-ends o at)
  node-ends at o q (Remains is) h = subst (λ (r : Option BackRow). RowTells n r at) (sym is) h

move-ends : (x : Conn) (v : Move) → Goes x v → EndsAreOfStays x → EndsAreOfStays (grown x v)
move-ends x v (InFront same goes) h n = subst (λ (nodes : ℕ → NodePart). RowTells n (nodes n).row (whereabouts_of (grown x v))) (sym same)
    (front-ends n x.c x.part.nodes (whereabouts_of x) (whereabouts_of (grown x v)) v.said.notes goes (h n))
move-ends x v (InNode m q front same goes) h n = subst (λ (at : Whereabouts). RowTells n (v.part.nodes n).row at) (sym (ap (λ f. whereabouts f.row) front))
    (subst (λ (nodes : ℕ → NodePart). RowTells n (nodes n).row (whereabouts_of x)) (sym same)
    (put-each x.part.nodes m q (λ k p. RowTells k p.row (whereabouts_of x)) (node-ends m (whereabouts_of x) (x.part.nodes m).row q.row goes (h m)) (λ k other. h k) n))

-- ---- every run

module _ (k : Setting) where
  epochs-law : IsLaw k IsPlaced EpochsAreOfOneNode
  epochs-law = record {
    begins = λ c n m e h. absurd h;
    moves = weaker k (λ x v. MayRestOn IsPlaced x → Goes x v) (λ x v. MayRestOn IsPlaced x → EpochsAreOfOneNode x → EpochsAreOfOneNode (grown x v))
        (λ x v goes may. move-epochs x v may.given (goes may)) (going k);
  }

  ends-law : IsLaw k IsPlaced EndsAreOfStays
  ends-law = record {
    begins = λ c n. tt;
    moves = weaker k (λ x v. MayRestOn IsPlaced x → Goes x v) (λ x v. MayRestOn IsPlaced x → EndsAreOfStays x → EndsAreOfStays (grown x v))
        (λ x v goes may. move-ends x v (goes may)) (going k);
  }

pub each-epoch-is-of-one-node : EachEpochIsOfOneNode
each-epoch-is-of-one-node config files checked = carried config files IsPlaced EpochsAreOfOneNode (λ l. epochs-law (with_leaving (setting config files) l)) (each-placed config files checked)

pub each-end-is-of-its-stay : EachEndIsOfItsStay
each-end-is-of-its-stay config files checked = carried config files IsPlaced EndsAreOfStays (λ l. ends-law (with_leaving (setting config files) l)) (each-placed config files checked)
