use Rattle.std.proofs.Common.{◌≡◌, ℕ, sym, ◌∙◌, ⊎_elim, arith, inl, inr, refl}
use Rattle.lard_refusals.proofs.Loads.{share-is-open, no-share-is-open}
use Rattle.lard_refusals.proofs.placing.batches_refuses.Goals as goal

pub returns-clause-two_batches_open : goal.returns-clause-two_batches_open
returns-clause-two_batches_open c h = ⊎_elim (λ (none : ⊥). none) (λ closed. let e : ◌≡◌ {A = ℕ} 1 0 = sym share-is-open ∙ closed in omega arith) h.1.1.1.0

pub returns-clause-one_batch_open : goal.returns-clause-one_batch_open
returns-clause-one_batch_open c = (tt, (inr no-share-is-open, (inl refl, tt)))
