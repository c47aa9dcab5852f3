use Rattle.std.proofs.Common.{◌≡◌, ℕ, [], ◌∷◌, ⊎_elim, arith, inl, refl}
use Rattle.std.specs.Prelude.{codes}
use Rattle.lard_base.specs.declared.event.Event.TheVariants as event
use Rattle.lard_law_view.specs.Prelude.{Has, Node}
use Rattle.lard_journal.specs.declared.rec.Rec.TheVariants as rec
use Rattle.lard_refusals.proofs.contents.queues_refuses.Goals as goal

nothing-comes : (k : ℕ) → Has (rec.Got k) (rec.Event 1 (event.Timer (Node 1) 1) ∷ rec.Queued 1 2 1 1 (codes "/a") ∷ []) → ⊥
nothing-comes k there =
    ⊎_elim (λ (e : rec.Event 1 (event.Timer (Node 1) 1) ≡ rec.Got k). cc)
    (⊎_elim (λ (e : rec.Queued 1 2 1 1 (codes "/a") ≡ rec.Got k). cc) (λ (none : ⊥). none)) there

pub returns-clause-job_for_another_unasked : goal.returns-clause-job_for_another_unasked
returns-clause-job_for_another_unasked c h = ⊎_elim (λ (same : 2 ≡ 1). omega arith) (λ gets. nothing-comes gets.k gets.got) h.0.1.0

pub returns-clause-job_of_its_own : goal.returns-clause-job_of_its_own
returns-clause-job_of_its_own c = ((tt, (inl refl, tt)), tt)
