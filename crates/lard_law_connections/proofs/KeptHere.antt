-- What a node has of a connection that is here in an epoch.
use Rattle.std.proofs.Common.{◌≡◌, ◌==◌, ℕ, Bool, true, false, cond, Option, Some, None, refl, sym, ap, ◌∙◌, eqb-true, eq-eqb}
use Rattle.lard_law_view.specs.Prelude.{BackConn, BackRow, ControlBlock, NodePart, Stay, back_endpoint, back_held, both_of, epoch_in, here, staying}
use Rattle.lard_handoff_back.specs.declared.row.BackConn.TheVariants as back

-- where something is here in an epoch, this is kept of it
pub record IsHere (e : ℕ) (p : NodePart) (b : ControlBlock) (s : Stay) : Type 0 where
  pub row : p.row ≡ Some (record { stage = back.Here b; epoch = record { 0 = e } })
  pub stay : p.stay ≡ Some s

pub here-is : (e : ℕ) (p : NodePart) (b : ControlBlock) (s : Stay) → here e p ≡ Some (b, s) → IsHere e p b s
here-is e p b s is = go p.row refl is where
  in-stay : (d : ControlBlock) (o : Option Stay) → p.stay ≡ o → both_of (Some d) o ≡ Some (b, s) → (d ≡ b) × (p.stay ≡ Some s)
  in-stay d None at f = let no : ◌≡◌ {A = Option (ControlBlock × Stay)} None (Some (b, s)) = f in absurd cc
  in-stay d (Some t) at f = (ap (λ (o : Option (ControlBlock × Stay)). elim o as (λ y. ControlBlock) [ None ↦ d | Some y ↦ y.0 ]) f, at ∙ ap (λ (o : Option (ControlBlock × Stay)). elim o as (λ y. Option Stay) [ None ↦ None | Some y ↦ Some y.1 ]) f)

  in-stage : (row : BackRow) → p.row ≡ Some row → row.epoch.0 ≡ e → (st : BackConn) → row.stage ≡ st → both_of (back_held st) p.stay ≡ Some (b, s) → IsHere e p b s
  in-stage row found same (back.Here d) at f =
      let both = in-stay d p.stay refl f in record {
        row = found ∙ (λ i. Some (record { stage = (at ∙ ap back.Here both.0) i; epoch = record { 0 = same i } }));
        stay = both.1;
      }
  in-stage row found same back.Out at f = let no : ◌≡◌ {A = Option (ControlBlock × Stay)} None (Some (b, s)) = f in absurd cc
  in-stage row found same back.Ended at f = let no : ◌≡◌ {A = Option (ControlBlock × Stay)} None (Some (b, s)) = f in absurd cc
  in-stage row found same back.Gone at f = let no : ◌≡◌ {A = Option (ControlBlock × Stay)} None (Some (b, s)) = f in absurd cc

  by-epoch : (row : BackRow) → p.row ≡ Some row → (t : Bool) → (row.epoch.0 == e) ≡ t → both_of (cond t (back_held row.stage) None) p.stay ≡ Some (b, s) → IsHere e p b s
  by-epoch row found true t f = in-stage row found (eqb-true row.epoch.0 e t) row.stage refl f
  by-epoch row found false t f = let no : ◌≡◌ {A = Option (ControlBlock × Stay)} None (Some (b, s)) = f in absurd cc

  go : (o : Option BackRow) → p.row ≡ o → both_of (staying e o) p.stay ≡ Some (b, s) → IsHere e p b s
  go None found f = let no : ◌≡◌ {A = Option (ControlBlock × Stay)} None (Some (b, s)) = f in absurd cc
  go (Some row) found f = by-epoch row found (row.epoch.0 == e) refl f

-- the epoch of its row is that of its timer
pub here-timer : (e : ℕ) (p : NodePart) → e ≡ epoch_in p → both_of (back_endpoint p.row) p.stay ≡ here e p
here-timer e p at = go p.row refl where
  go : (o : Option BackRow) → p.row ≡ o → both_of (back_endpoint o) p.stay ≡ both_of (staying e o) p.stay
  go None found = refl
  go (Some row) found =
      let same : row.epoch.0 ≡ e = sym (at ∙ ap (λ (o : Option BackRow). epoch_in (record p { row = o })) found) in
      ap (λ b. both_of (cond b (back_held row.stage) None) p.stay) (sym (eq-eqb row.epoch.0 e same))
