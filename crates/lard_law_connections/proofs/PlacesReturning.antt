-- Where a connection is as its node's Give comes to the front end: at that node, its stay is over, and nobody owns it.
use Rattle.std.proofs.Common.{◌≡◌, ◌⊎◌, ◌+◌, ◌==◌, ℕ, Bool, true, false, List, Option, Some, None, is_some, inr, ⊎_elim, refl, sym, ◌∙◌, subst, arith, eqb-true, eq-eqb}
use Rattle.lard_law_view.specs.Prelude.{BackRow, Conn, EndpointParts, FrontRow, Node, Front, Seen, tale_at}
use Rattle.lard_law_connections.specs.Places.{ArePast, IsComing, IsEarlyEpoch, IsEven, IsGivenBack, IsOver, IsPast, IsThere, OthersArePast, Owning, owning}
use Rattle.lard_law_connections.proofs.PlacesFront.{sits-in}
use Rattle.lard_law_connections.proofs.PlacesFrontMessages.{came-says, over-past}
use Rattle.lard_law_connections.proofs.PlacesGrowing.{past-later}
use Rattle.lard_law_connections.proofs.PlacesTurns.{IsPlaced, early-at}
use Rattle.lard_handoff_front.specs.declared.row.FrontConn.TheVariants as stage
use Rattle.lard_law_view.proofs.EachFront.{HasBack}
use Rattle.lard_message.specs.declared.message.Body.TheVariants as body
use Rattle.lard_rules.proofs.FrontCases.{IsBack, IsInStage}

pub record IsGivenThere (x : Conn) (n epoch : ℕ) (row : FrontRow) : Type 0 where
  pub found : x.part.front.row ≡ Some row
  pub epoch_is : row.epoch.0 ≡ epoch
  pub even : IsEven epoch
  pub early : IsEarlyEpoch epoch
  pub others : OthersArePast n epoch x.part.nodes
  pub there : IsThere n epoch (owning (tale_at x)) (x.part.nodes n).row
  pub over : IsOver epoch (x.part.nodes n).row
  pub returned : is_some (x.part.nodes n).beside.returned ≡ true

-- a stay that is over was taken
over-came : (n e : ℕ) (w : Owning) (o : Option BackRow) → IsComing e w o → IsOver e o → IsThere n e w o
over-came n e w None coming over = absurd over
over-came n e w (Some row) coming over = absurd (omega (arith, coming.2.0, over.0))

module _ (x : Conn) (placed : IsPlaced x) (n epoch : ℕ) (given : EndpointParts) (heads : List Seen) (comes : HasBack x n epoch (Some given) heads)
    (row : FrontRow) (parts : EndpointParts) (is : IsBack x.part.front n epoch (Some given) row parts) where
  abbrev w : Owning
  w = owning (tale_at x)

  said : IsGivenBack epoch (x.part.nodes n)
  said = came-says x (Node n) Front epoch (body.Give given) comes.bytes placed.letters comes.was comes.spells

  abbrev At : ℕ → Type 0
  At e = IsEven e × OthersArePast n e x.part.nodes × (IsComing e w (x.part.nodes n).row ⊎ IsThere n e w (x.part.nodes n).row)

  of-row : x.part.front.row ≡ Some row → row.epoch.0 ≡ epoch → At row.epoch.0 → IsGivenThere x n epoch row
  of-row found same at =
      let a : At epoch = subst At same at in
      record {
        found = found;
        epoch_is = same;
        even = a.0;
        early = subst IsEarlyEpoch same (early-at x placed row found);
        others = a.1;
        there = ⊎_elim (λ (coming : IsComing epoch w (x.part.nodes n).row). over-came n epoch w (x.part.nodes n).row coming said.0)
            (λ (there : IsThere n epoch w (x.part.nodes n).row). there) a.2;
        over = said.0;
        returned = said.1;
      }

  pub given-there : IsGivenThere x n epoch row
  given-there = ⊎_elim
      (λ (at : IsInStage x.part.front row (stage.Offering n is.from)).
      let h = sits-in x placed row (stage.Offering n is.from) at in of-row at.0 (sym h.0.1 ∙ is.epoch_is) (h.0.0, h.0.2, h.0.3))
      (λ (at : IsInStage x.part.front row (stage.Moved n is.from)).
      let h = sits-in x placed row (stage.Moved n is.from) at in of-row at.0 (sym h.0.1 ∙ is.epoch_is) (h.0.0, h.0.2, inr h.0.3))
      is.at

-- so every stay there was is over, and none is of a later epoch
pub given-past : (x : Conn) (n epoch : ℕ) (row : FrontRow) → IsGivenThere x n epoch row → ArePast (epoch + 1) x.part.nodes
given-past x n epoch row it m = go (m == n) refl where
  go : (b : Bool) → (m == n) ≡ b → IsPast (epoch + 1) (x.part.nodes m).row
  go true same = subst (λ (j : ℕ). IsPast (epoch + 1) (x.part.nodes j).row) (sym (eqb-true m n same)) (over-past epoch n (owning (tale_at x)) (x.part.nodes n).row it.there it.over)
  go false other = past-later epoch (epoch + 1) (x.part.nodes m).row (omega arith) (it.others m (λ is. let yes : true ≡ false = sym (eq-eqb m n is) ∙ other in cc))
