use Rattle.std.proofs.Common.{◌≡◌, ℕ, true, false, length, refl, ap, ◌∙◌, ⊎_elim, arith}
use Rattle.lard_refusals.proofs.Responses.{its-bytes}
use Rattle.lard_refusals.proofs.quiet.quiet_refuses.Goals as goal

pub returns-clause-shut_and_forgotten : goal.returns-clause-shut_and_forgotten
returns-clause-shut_and_forgotten c h =
    ⊎_elim (λ complete. let e : false ≡ true = complete.shut refl in cc) (λ waits. waits.0) (h.last 1 refl refl refl refl (λ p kind. refl) (λ n. refl))

pub returns-clause-asked_and_forgotten : goal.returns-clause-asked_and_forgotten
returns-clause-asked_and_forgotten c h =
    ⊎_elim (λ complete. let e : ◌≡◌ {A = ℕ} 0 40 = ap length (complete.all ∙ its-bytes) in omega arith) (λ waits. waits.0) (h.last 1 refl refl refl refl (λ p kind. refl) (λ n. refl))
