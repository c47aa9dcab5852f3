-- The head of the line is a connection that waits, and no other than the one that ended.
use Rattle.std.proofs.Common.{◌≡◌, ℕ, true, false, List, [], Option, Some, None, refl, sym, ap, ◌∙◌}
use Rattle.lard_endpoint.specs.Control.{ControlBlock}
use Rattle.lard_endpoint.specs.Moving.{may_freeze}
use Rattle.lard_rules.specs.declared.front.FrontRest.{FrontRest}
use Rattle.lard_rules.specs.Front.{FrontEnv, FrontPart, admitted_at, admitted_by, front_admitted_with, front_admitted, handed_off, front_rest}
use Rattle.lard_rules.specs.FrontSound.{HasTarget, IsHere, IsHereWith, IsPartSound, IsRowSound, IsStageSound, DispatchStanding, OpenNodes, Waits}
use Rattle.lard_handoff_front.specs.declared.row.FrontConn.{FrontConn}
use Rattle.lard_handoff_front.specs.declared.row.FrontConn.TheVariants as stage
use Rattle.lard_handoff_front.specs.declared.row.FrontRow.{FrontRow}
use Rattle.lard_policy.specs.declared.first.FirstChoice.{FirstChoice}
use Rattle.lard_rules.specs.Serving.{serving}

-- who is in the line waits
pub line-waits : (k : OpenNodes) (p : FrontPart) (at : DispatchStanding) → IsPartSound k p at → at.waits ≡ true → Waits k p
line-waits k p at sound there = by p.row refl sound where
  with-target : (row : FrontRow) (b : ControlBlock) (rest : FrontRest) → p.row ≡ Some row → row.stage ≡ stage.Waiting b → p.rest ≡ Some rest → IsHere k row.epoch.0 b rest → p.kept ≡ [] → may_freeze b ≡ true
      → (o : Option (List ℕ)) → rest.target ≡ o → (elim o as (λ o. Type 0) [ None ↦ ⊥ | Some path ↦ Unit {0} ]) → Waits k p
  with-target row b rest found is found_rest here none may None waits h = absurd h
  with-target row b rest found is found_rest here none may (Some path) waits h =
      record { row = row; block = b; rest = rest; path = path; found = found; stage = is; found_rest = found_rest; target = waits; here = here; none_kept = none; may = may }

  with-rest : (row : FrontRow) (b : ControlBlock) → p.row ≡ Some row → row.stage ≡ stage.Waiting b → (o : Option FrontRest) → p.rest ≡ o → IsHereWith k row.epoch.0 b o → p.kept ≡ [] → may_freeze b ≡ true → HasTarget o → Waits k p
  with-rest row b found is None found_rest here none may target = absurd here
  with-rest row b found is (Some rest) found_rest here none may target = with-target row b rest found is found_rest here none may rest.target refl target

  in-stage : (row : FrontRow) → p.row ≡ Some row → (x : FrontConn) → row.stage ≡ x → IsStageSound k row.epoch.0 p.rest p.kept at x → Waits k p
  in-stage row found (stage.Waiting b) is h = with-rest row b found is p.rest refl h.0 h.1 h.3 h.4
  in-stage row found (stage.Held b) is h = let no : true ≡ false = sym there ∙ ap (λ (x : DispatchStanding). x.waits) h.2 in absurd cc
  in-stage row found stage.Lent is h = absurd h
  in-stage row found (stage.Offering node e) is h = let no : true ≡ false = sym there ∙ ap (λ (x : DispatchStanding). x.waits) h.stands in absurd cc
  in-stage row found (stage.Moved node e) is h = let no : true ≡ false = sym there ∙ ap (λ (x : DispatchStanding). x.waits) h.stands in absurd cc
  in-stage row found (stage.Closed last) is h = let no : true ≡ false = sym there ∙ ap (λ (x : DispatchStanding). x.waits) h.1 in absurd cc

  by : (o : Option FrontRow) → p.row ≡ o → IsRowSound k p.rest p.kept at o → Waits k p
  by None found h = let no : true ≡ false = sym there ∙ ap (λ (x : DispatchStanding). x.waits) h.1 in absurd cc
  by (Some row) found h = in-stage row found row.stage refl h

-- it is handed off
pub waits-admitted : (env : FrontEnv) (k : OpenNodes) (p : FrontPart) (choice : FirstChoice) (w : Waits k p) → front_admitted env p choice ≡ Some (handed_off env w.row (serving w.block w.rest.count []) w.path choice)
waits-admitted env k p choice w =
    ap (admitted_by env p choice) w.found
    ∙ ap (admitted_at env p choice w.row) w.stage
    ∙ ap (λ (o : Option FrontRest). front_admitted_with env w.row (front_rest o) w.block choice (front_rest o).target) w.found_rest
    ∙ ap (front_admitted_with env w.row w.rest w.block choice) w.target
