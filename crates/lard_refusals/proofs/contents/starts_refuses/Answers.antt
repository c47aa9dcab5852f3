use Rattle.std.proofs.Common.{[], ◌∷◌, inl, refl, None, Some, inr, ◌≡◌, ℕ, sym, subst, ⊎_elim}
use Rattle.std.specs.Prelude.{codes}
use Rattle.lard_law_view.specs.Prelude.{Has, Node, Rec}
use Rattle.lard_laws.specs.BackingTold.{AssignsFor, WasTold}
use Rattle.lard_journal.specs.declared.rec.Rec.TheVariants as rec
use Rattle.lard_refusals.specs.Refusals.{took}
use Rattle.lard_refusals.proofs.Having.{of-later}
use Rattle.lard_refusals.proofs.contents.starts_refuses.Goals as goal

abbrev assigning : Rec
assigning = rec.AssignedFirst 1 1 (codes "/a") 1 (Some 1) None

abbrev taking : ℕ → Rec
taking epoch = took (Node 1) 1 epoch

-- it was assigned first, so the record that the node took the connection would have told it
pub returns-clause-job_before_it_is_told : goal.returns-clause-job_before_it_is_told
returns-clause-job_before_it_is_told c h =
    let is = h.1.0 refl refl in
    let a = is.assigned in
    let there : Has a.its (assigning ∷ []) = of-later a.its (assigning ∷ []) a.before (a.its ∷ a.behind) a.split (inl refl) in
    let its : assigning ≡ a.its = ⊎_elim (λ (e : assigning ≡ a.its). e) (λ (none : ⊥). absurd none) there in
    let without : is.ask ≡ None = (subst (AssignsFor a.before 1 (codes "/a") is.node is.ask) (sym its) a.assigns).3 in
    let told : Has (taking is.epoch) (assigning ∷ []) = subst (WasTold (assigning ∷ []) 1 1 is.epoch) without is.told in
    ⊎_elim (λ (e : assigning ≡ taking is.epoch). cc) (λ (none : ⊥). none) told

-- what assigned the request would be among the records before
pub returns-clause-read_before_it_is_assigned : goal.returns-clause-read_before_it_is_assigned
returns-clause-read_before_it_is_assigned c h =
    let a = (h.1.0 refl refl).assigned in
    let there : Has a.its (taking 2 ∷ []) = of-later a.its (taking 2 ∷ []) a.before (a.its ∷ a.behind) a.split (inl refl) in
    ⊎_elim (λ (e : taking 2 ≡ a.its). subst (AssignsFor a.before 1 (codes "/a") (h.1.0 refl refl).node (h.1.0 refl refl).ask) (sym e) a.assigns) (λ (none : ⊥). none) there

-- ---- what is allowed

pub returns-clause-job_once_it_is_told : goal.returns-clause-job_once_it_is_told
returns-clause-job_once_it_is_told c = (
  tt,
  (
    tt,
    (
      (λ untouched same. record {
        epoch = 2;
        ask = None;
        node = 1;
        assigned = record {
          before = [];
          its = rec.AssignedFirst 1 1 (codes "/a") 1 (Some 1) None;
          behind = took (Node 1) 1 2 ∷ [];
          split = refl;
          assigns = (refl, refl, refl, refl);
          place = refl;
        };
        told = inr (inl refl);
      }),
      tt,
    ),
  ),
)
