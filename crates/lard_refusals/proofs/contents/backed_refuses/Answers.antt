use Rattle.std.proofs.Common.{◌≡◌, [], ◌∷◌, None, Some, refl, ⊎_elim}
use Rattle.std.specs.Prelude.{codes}
use Rattle.lard_law_view.specs.Prelude.{Has, Node, Rec, request}
use Rattle.lard_journal.specs.declared.rec.Rec.TheVariants as rec
use Rattle.lard_refusals.specs.Refusals.{took}
use Rattle.lard_refusals.proofs.Having.{of-later}
use Rattle.lard_refusals.proofs.Responses.{first-for-a}
use Rattle.lard_refusals.proofs.contents.backed_refuses.Goals as goal

abbrev hit : Rec
hit = rec.Hit 1 (codes "/a")

-- no hit is among the records before
not-there : Has hit (rec.Wrote 1 (request (codes "/a")) ∷ rec.AssignedFirst 1 1 (codes "/a") 1 (Some 1) None ∷ took (Node 1) 1 2 ∷ []) → ⊥
not-there there =
    ⊎_elim (λ (e : rec.Wrote 1 (request (codes "/a")) ≡ hit). cc)
    (⊎_elim (λ (e : rec.AssignedFirst 1 1 (codes "/a") 1 (Some 1) None ≡ hit). cc)
    (⊎_elim (λ (e : took (Node 1) 1 2 ≡ hit). cc) (λ (none : ⊥). none))) there

pub returns-clause-cache_without_a_hit : goal.returns-clause-cache_without_a_hit
returns-clause-cache_without_a_hit c h =
    let told = h.1.1.1.0 refl (codes "/a") first-for-a in
    not-there (of-later hit _ told.before told.later told.split told.stands)
