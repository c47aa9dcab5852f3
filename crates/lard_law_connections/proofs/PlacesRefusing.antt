-- A node that leaves refuses an Offer: the connection sits where it sat, and the front end hears of it.
use Rattle.std.proofs.Common.{◌≡◌, ◌⊎◌, ℕ, ◌<◌, ◌≤◌, ◌&&◌, Bool, true, cond, List, [], Option, Some, None, inl, inr, ⊎_elim, refl, sym, subst, arith, eqb-true}
use Rattle.std.proofs.lemmas.Bool.{and_parts, cond_both, ltb-true}
use Rattle.lard_law_view.specs.Prelude.{BackRow, Conn, Epoch, Front, FrontConn, FrontRow, IsNodeEnv, Node, NodeEnv, NodePart, Part, Seen, Setting, by_node, kept_refused, node_does, node_put_back, node_saying, offer_decision, refused_sent, tale_at, with_node}
use Rattle.lard_law_connections.specs.Places.{HasEnded, IsComing, IsDecided, IsEarlyEpoch, IsHome, IsOfOther, IsOffered, IsPast, IsReachedBy, IsRefusalKnown, IsRowEarly, IsThere, MaySay, Offers, Owning, Sits, StageSits, owning}
use Rattle.lard_law_connections.proofs.PlacesFront.{IsQuiet}
use Rattle.lard_law_connections.proofs.PlacesGrowing.{back-still}
use Rattle.lard_law_connections.proofs.PlacesHeads.{spelled-head}
use Rattle.lard_law_connections.proofs.PlacesNode.{node-owes, plain-turned}
use Rattle.lard_law_connections.proofs.PlacesNodeRules.{IsSaid}
use Rattle.lard_law_connections.proofs.PlacesTurns.{IsPlaced, Owes}
use Rattle.lard_law_view.proofs.Parts.{put-each, put-same}
use Rattle.lard_handoff_back.specs.Leaving.{exceeds, is_free, is_new_epoch, is_this_epoch, row_epoch}
use Rattle.lard_handoff_back.specs.Table.{Beside}
use Rattle.lard_handoff_back.specs.declared.table.Adopt.{Adopt}
use Rattle.lard_handoff_back.specs.declared.table.Adopt.TheVariants.{New, Again, Stale, Refuse}
use Rattle.lard_handoff_front.specs.declared.row.FrontConn.TheVariants as stage
use Rattle.lard_rules.specs.Node.{Does}

-- ---- what is refused

-- It is of an epoch that exceeds that of the row, and no refused one exceeds it.
pub refuse-new : (leaving : Bool) (e : ℕ) (row : Option BackRow) (b : Beside) → offer_decision leaving e row b ≡ Refuse
    → (exceeds e (row_epoch row) ≡ true) × ((exceeds e b.refused ≡ true) ⊎ (is_this_epoch e b.refused ≡ true))
refuse-new leaving e row b is =
    cond_both (is_new_epoch e row b) (cond leaving Refuse (cond (is_free row) New Stale))
    (cond (is_this_epoch e b.refused && exceeds e (row_epoch row)) Refuse (cond (is_this_epoch e (row_epoch row) && exceeds e b.refused) Again Stale))
    (λ (a : Adopt). a ≡ Refuse → (exceeds e (row_epoch row) ≡ true) × ((exceeds e b.refused ≡ true) ⊎ (is_this_epoch e b.refused ≡ true)))
    (λ new h. let both = and_parts (exceeds e (row_epoch row)) (exceeds e b.refused) new in (both.0, inl both.1))
    (λ old. cond_both (is_this_epoch e b.refused && exceeds e (row_epoch row)) Refuse (cond (is_this_epoch e (row_epoch row) && exceeds e b.refused) Again Stale)
    (λ (a : Adopt). a ≡ Refuse → (exceeds e (row_epoch row) ≡ true) × ((exceeds e b.refused ≡ true) ⊎ (is_this_epoch e b.refused ≡ true)))
    (λ this h. let both = and_parts (is_this_epoch e b.refused) (exceeds e (row_epoch row)) this in (both.1, inr both.0))
    (λ other. cond_both (is_this_epoch e (row_epoch row) && exceeds e b.refused) Again Stale
    (λ (a : Adopt). a ≡ Refuse → (exceeds e (row_epoch row) ≡ true) × ((exceeds e b.refused ≡ true) ⊎ (is_this_epoch e b.refused ≡ true)))
    (λ again h. let no : Again ≡ Refuse = h in absurd cc) (λ stale h. let no : Stale ≡ Refuse = h in absurd cc))) is

-- ---- a connection sits by its nodes' rows alone

module _ (w : Owning) (nodes ps : ℕ → NodePart) (same : (m : ℕ) → (ps m).row ≡ (nodes m).row) where
  past-same : (m e : ℕ) → IsPast e (nodes m).row → IsPast e (ps m).row
  past-same m e = subst (IsPast e) (sym (same m))

  home-same : (e : ℕ) → IsHome e w nodes → IsHome e w ps
  home-same e h = (h.0, λ m. past-same m e (h.1 m))

  stage-same : (e : ℕ) (st : FrontConn) → StageSits e w nodes st → StageSits e w ps st
  stage-same e (stage.Held b) h = (h.0, home-same e h.1)
  stage-same e (stage.Waiting b) h = (h.0, home-same e h.1)
  stage-same e stage.Lent h = h
  stage-same e (stage.Offering n d) h = (
    h.0,
    h.1,
    λ m other. past-same m e (h.2 m other),
    ⊎_elim (λ (coming : IsComing e w (nodes n).row). inl (subst (IsComing e w) (sym (same n)) coming))
        (λ (there : IsThere n e w (nodes n).row). inr (subst (IsThere n e w) (sym (same n)) there)) h.3,
  )
  stage-same e (stage.Moved n d) h = (h.0, h.1, λ m other. past-same m e (h.2 m other), subst (IsThere n e w) (sym (same n)) h.3)
  stage-same e (stage.Closed last) h = (h.0, home-same e h.1)

  pub sits-same : (o : Option FrontRow) → Sits w nodes o → Sits w ps o
  sits-same None h = (h.0, λ m. past-same m 0 (h.1 m))
  sits-same (Some row) h = (stage-same row.epoch.0 row.stage h.0, h.1)

-- ---- the refusal

module _ (k : Setting) (x : Conn) (heads : List Seen) (quiet : IsQuiet x heads) (held : IsPlaced x) (n epoch : ℕ) (env : NodeEnv) (is : IsNodeEnv k x.c n epoch env) where
  abbrev ours : NodePart
  ours = x.part.nodes n

  abbrev q : NodePart
  q = kept_refused env ours

  abbrev p : Part
  p = with_node x.part n q

  reached : (o : Option Epoch) → (exceeds env.epoch o ≡ true) ⊎ (is_this_epoch env.epoch o ≡ true) → (e : ℕ) → IsReachedBy e o → e ≤ env.epoch
  reached None at e h = absurd h
  reached (Some d) at e h = ⊎_elim
      (λ (more : exceeds env.epoch (Some d) ≡ true). let less : d.0 < env.epoch = ltb-true d.0 env.epoch more in omega (arith, less, h))
      (λ (this : is_this_epoch env.epoch (Some d) ≡ true). let same : d.0 ≡ env.epoch = eqb-true d.0 env.epoch this in omega (arith, same, h)) at

  other-stay : (o : Option BackRow) → exceeds env.epoch (row_epoch o) ≡ true → IsOfOther env.epoch o
  other-stay None more = tt
  other-stay (Some row) more = λ same. let less : row.epoch.0 < env.epoch = ltb-true row.epoch.0 env.epoch more in absurd (omega (arith, less, same))

  undecided : (o : Option BackRow) → exceeds env.epoch (row_epoch o) ≡ true → IsDecided env.epoch o → ⊥
  undecided None more h = h
  undecided (Some row) more h = let less : row.epoch.0 < env.epoch = ltb-true row.epoch.0 env.epoch more in omega (arith, less, h)

  -- an Offer that is offered still, or past, is of an early epoch
  offered-early : (o : Option FrontRow) → Sits (owning (tale_at x)) x.part.nodes o → IsRowEarly o → HasEnded env.epoch o ⊎ IsOffered n env.epoch o → IsEarlyEpoch env.epoch
  offered-early None sits early h = ⊎_elim (λ (ended : ⊥). absurd ended) (λ (offered : ⊥). absurd offered) h
  offered-early (Some row) sits early h = ⊎_elim
      (λ (ended : HasEnded env.epoch (Some row)). omega (arith, ended, early))
      (λ (offered : IsOffered n env.epoch (Some row)). at-stage row.stage sits.0 offered) h where
        at-stage : (st : FrontConn) → StageSits row.epoch.0 (owning (tale_at x)) x.part.nodes st → Offers n env.epoch st → IsEarlyEpoch env.epoch
        at-stage (stage.Offering m d) s o = omega (arith, s.1, o.1, early)
        at-stage _ s o = absurd o

  pub refuses-owe : IsSaid k x heads quiet held n epoch env is → offer_decision env.leaving env.epoch ours.row ours.beside ≡ Refuse
      → Owes x (node_does x n heads (Does (q, node_saying (refused_sent env))))
  refuses-owe said refuse =
      let new = refuse-new env.leaving env.epoch ours.row ours.beside refuse in
      let told : HasEnded env.epoch x.part.front.row ⊎ IsOffered n env.epoch x.part.front.row =
      ⊎_elim (λ (d : IsDecided env.epoch ours.row). absurd (undecided ours.row new.0 d))
      (⊎_elim (λ (o : IsOffered n env.epoch x.part.front.row). inr o) (λ (known : IsRefusalKnown x.part n env.epoch). inl known.1)) said in
      let early = offered-early x.part.front.row held.sits held.early told in
      node-owes x heads quiet n (by_node (node_saying (refused_sent env))) q (owning (tale_at x))
      (plain-turned x heads quiet (Node n) [] (refused_sent env) tt (tt, tt))
      (sits-same (owning (tale_at x)) x.part.nodes (node_put_back x.part.nodes n q)
      (put-each x.part.nodes n q (λ m r. r.row ≡ (x.part.nodes m).row) refl (λ m other. refl)) x.part.front.row held.sits)
      (back-still ours.row)
      (λ e h. (reached ours.beside.refused new.1 e h.0, h.1)) (λ h. h) (
        subst (λ h. MaySay p (Node n) Front h) (sym (spelled-head _ (omega (arith, early))))
            (subst (λ (r : NodePart). IsReachedBy env.epoch r.beside.refused × IsOfOther env.epoch r.row) (sym (put-same x.part.nodes n q)) (omega arith, other-stay ours.row new.0), told),
        tt,
      )
