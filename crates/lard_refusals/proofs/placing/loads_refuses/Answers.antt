use Rattle.std.proofs.Common.{◌≡◌, ℕ, [], refl, sym, ap, ◌∙◌, arith}
use Rattle.lard_law_view.specs.Prelude.{Tally, load}
use Rattle.lard_refusals.specs.Placing.{share_of_nobody}
use Rattle.lard_refusals.proofs.Loads.{no-load, none-shares}
use Rattle.lard_refusals.proofs.placing.loads_refuses.Goals as goal

pub returns-clause-share_of_nobody : goal.returns-clause-share_of_nobody
returns-clause-share_of_nobody c h =
    let e : ◌≡◌ {A = ℕ} 0 420 = sym (ap (λ (t : Tally). load t 2) none-shares ∙ no-load 2) ∙ (h share_of_nobody [] refl).0 2 in
    omega arith
