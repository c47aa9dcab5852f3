-- With whom the front end has a connection that is at a node.
use Rattle.std.proofs.Common.{◌≡◌, ◌⊎◌, ◌==◌, ℕ, Bool, true, false, Option, Some, None, refl, sym, ◌∙◌, subst, arith, eqb-true, eq-eqb, inl, inr, ⊎_elim}
use Rattle.lard_law_connections.specs.Places.{IsComing, IsDecided, IsEarlyEpoch, IsEven, IsOffered, IsPast, IsThere, Offers, Owning, Sits, StageSits, owning}
use Rattle.lard_law_connections.proofs.PlacesTurns.{IsPlaced, early-at}
use Rattle.lard_law_view.specs.Prelude.{BackRow, Conn, ControlBlock, FrontConn, FrontRow, tale_at}
use Rattle.lard_handoff_back.specs.declared.row.BackConn.TheVariants as back
use Rattle.lard_handoff_front.specs.declared.row.FrontConn.TheVariants as stage
use Rattle.lard_law_connections.specs.Past.{GoesToNew, IsNewTo, NewAt, stage_whereabouts, whereabouts}

-- the front end has it with this node, in this epoch
pub record IsWithNode (x : Conn) (n e : ℕ) : Type 0 where
  pub row : FrontRow
  pub found : x.part.front.row ≡ Some row
  pub stage : (row.stage ≡ stage.Offering n (record { 0 = e })) ⊎ (row.stage ≡ stage.Moved n (record { 0 = e }))

-- where a node has it, the front end has it with that node, in the epoch of the stay
pub with-node : (x : Conn) → IsPlaced x → (n e : ℕ) (b : ControlBlock) → (x.part.nodes n).row ≡ Some (record { stage = back.Here b; epoch = record { 0 = e } }) → IsWithNode x n e
with-node x placed n e b row = go x.part.front.row refl placed.sits where
  w : Owning
  w = owning (tale_at x)

  past : (d : ℕ) → IsPast d (x.part.nodes n).row → ⊥
  past d h = (subst (IsPast d) row h).1

  of-there : (d : ℕ) → IsThere n d w (x.part.nodes n).row → e ≡ d
  of-there d h = (subst (IsThere n d w) row h).0

  at-stage : (fr : FrontRow) → x.part.front.row ≡ Some fr → (st : FrontConn) → fr.stage ≡ st → StageSits fr.epoch.0 w x.part.nodes st → IsWithNode x n e
  at-stage fr found (stage.Held c) eq h = absurd (past fr.epoch.0 (h.1.1 n))
  at-stage fr found (stage.Waiting c) eq h = absurd (past fr.epoch.0 (h.1.1 n))
  at-stage fr found stage.Lent eq h = absurd h
  at-stage fr found (stage.Closed last) eq h = absurd (past fr.epoch.0 (h.1.1 n))
  at-stage fr found (stage.Offering m d) eq h = by-node (m == n) refl where
    by-node : (t : Bool) → (m == n) ≡ t → IsWithNode x n e
    by-node false t = absurd (past fr.epoch.0 (h.2 n (λ same. let yes : false ≡ true = sym t ∙ eq-eqb m n (sym same) in cc)))
    by-node true t =
        let node : m ≡ n = eqb-true m n t in
        let its : IsComing fr.epoch.0 w (x.part.nodes n).row ⊎ IsThere n fr.epoch.0 w (x.part.nodes n).row = subst (λ (i : ℕ). IsComing fr.epoch.0 w (x.part.nodes i).row ⊎ IsThere i fr.epoch.0 w (x.part.nodes i).row) node h.3 in
        let epoch : e ≡ fr.epoch.0 = ⊎_elim (λ (c : IsComing fr.epoch.0 w (x.part.nodes n).row). absurd (past fr.epoch.0 c.2)) (λ (c : IsThere n fr.epoch.0 w (x.part.nodes n).row). of-there fr.epoch.0 c) its in
        let same : d.0 ≡ e = h.1 ∙ sym epoch in
        record { row = fr; found = found; stage = inl (eq ∙ (λ i. stage.Offering (node i) (record { 0 = same i }))) }
  at-stage fr found (stage.Moved m d) eq h = by-node (m == n) refl where
    by-node : (t : Bool) → (m == n) ≡ t → IsWithNode x n e
    by-node false t = absurd (past fr.epoch.0 (h.2 n (λ same. let yes : false ≡ true = sym t ∙ eq-eqb m n (sym same) in cc)))
    by-node true t =
        let node : m ≡ n = eqb-true m n t in
        let its : IsThere n fr.epoch.0 w (x.part.nodes n).row = subst (λ (i : ℕ). IsThere i fr.epoch.0 w (x.part.nodes i).row) node h.3 in
        let same : d.0 ≡ e = h.1 ∙ sym (of-there fr.epoch.0 its) in
        record { row = fr; found = found; stage = inr (eq ∙ (λ i. stage.Moved (node i) (record { 0 = same i }))) }

  go : (o : Option FrontRow) → x.part.front.row ≡ o → Sits w x.part.nodes o → IsWithNode x n e
  go None found h = absurd (past 0 (h.1 n))
  go (Some fr) found h = at-stage fr found fr.stage refl h.0

-- until the node decides, an Offer is on its way
pub offered-coming : (x : Conn) → IsPlaced x → (n e : ℕ) → IsOffered n e x.part.front.row → (IsDecided e (x.part.nodes n).row → ⊥) → IsComing e (owning (tale_at x)) (x.part.nodes n).row
offered-coming x placed n e offered other = go x.part.front.row refl offered where
  w : Owning
  w = owning (tale_at x)

  there-epoch : (o : Option BackRow) → IsThere n e w o → IsDecided e o
  there-epoch None h = h
  there-epoch (Some row) h = omega (arith, h.0)

  at-stage : (row : FrontRow) → x.part.front.row ≡ Some row → (st : FrontConn) → row.stage ≡ st → Offers n e st → IsComing e w (x.part.nodes n).row
  at-stage row found (stage.Offering m d) at offers =
      let sits : StageSits row.epoch.0 w x.part.nodes (stage.Offering m d) = subst (StageSits row.epoch.0 w x.part.nodes) at (subst (Sits w x.part.nodes) found placed.sits).0 in
      let same : row.epoch.0 ≡ e = sym sits.1 ∙ offers.1 in
      ⊎_elim (λ (c : IsComing e w (x.part.nodes n).row). c) (λ (c : IsThere n e w (x.part.nodes n).row). absurd (other (there-epoch (x.part.nodes n).row c)))
      (subst (λ (i : ℕ). IsComing e w (x.part.nodes i).row ⊎ IsThere i e w (x.part.nodes i).row) offers.0
      (subst (λ (f : ℕ). IsComing f w (x.part.nodes m).row ⊎ IsThere m f w (x.part.nodes m).row) same sits.3))
  at-stage row found _ at offers = absurd offers

  go : (o : Option FrontRow) → x.part.front.row ≡ o → IsOffered n e o → IsComing e w (x.part.nodes n).row
  go None found offers = absurd offers
  go (Some row) found offers = at-stage row found row.stage refl offers

-- what is offered is so in an epoch of nodes, and early
pub offered-away : (x : Conn) → IsPlaced x → (n e : ℕ) → IsOffered n e x.part.front.row → IsEven e × IsEarlyEpoch e
offered-away x placed n e offered = go x.part.front.row refl offered where
  at-stage : (row : FrontRow) → x.part.front.row ≡ Some row → (st : FrontConn) → row.stage ≡ st → Offers n e st → IsEven e × IsEarlyEpoch e
  at-stage row found (stage.Offering m d) at offers =
      let w : Owning = owning (tale_at x) in
      let sits : StageSits row.epoch.0 w x.part.nodes (stage.Offering m d) = subst (StageSits row.epoch.0 w x.part.nodes) at (subst (Sits w x.part.nodes) found placed.sits).0 in
      let same : row.epoch.0 ≡ e = sym sits.1 ∙ offers.1 in
      (subst IsEven same sits.0, subst IsEarlyEpoch same (early-at x placed row found))
  at-stage row found _ at offers = absurd offers

  go : (o : Option FrontRow) → x.part.front.row ≡ o → IsOffered n e o → IsEven e × IsEarlyEpoch e
  go None found offers = absurd offers
  go (Some row) found offers = at-stage row found row.stage refl offers

-- a node to which it is offered is new to it
pub offered-new : (x : Conn) → GoesToNew x → (n e : ℕ) → IsOffered n e x.part.front.row → IsNewTo e (x.part.nodes n).row
offered-new x new n e offered = go x.part.front.row new offered where
  at-stage : (row : FrontRow) (st : FrontConn) → NewAt x.part.nodes (stage_whereabouts row.ended_by st) → Offers n e st → IsNewTo e (x.part.nodes n).row
  at-stage row (stage.Offering m d) at offers = subst (λ (i : ℕ). IsNewTo e (x.part.nodes i).row) offers.0 (subst (λ (i : ℕ). IsNewTo i (x.part.nodes m).row) offers.1 at)
  at-stage row _ at offers = absurd offers

  go : (o : Option FrontRow) → NewAt x.part.nodes (whereabouts o) → IsOffered n e o → IsNewTo e (x.part.nodes n).row
  go None at h = absurd h
  go (Some row) at h = at-stage row row.stage at h
