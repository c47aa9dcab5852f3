use Rattle.std.proofs.Common.{◌≡◌, ℕ, List, [], ◌∷◌, Option, ap, ◌∙◌}
use Rattle.std.specs.FinMap.{get-empty}
use Rattle.std.specs.Ordering.{nat_cmp}
use Rattle.std.specs.Prelude.{codes, length, nat_lt}
use Rattle.lard_laws.specs.AsksAnswers.{ends_due}
use Rattle.lard_laws.specs.Asks.{LaterAssigned}
use Rattle.lard_law_view.specs.Prelude.{Standing, shares_of}
use Rattle.lard_refusals.proofs.asks.batch_ends_refuses.Goals as goal

abbrev later : LaterAssigned
later = record { r = 2; path = codes "/a"; size = 1; queue = 0 }

pub returns-clause-batch_over_by_itself : goal.returns-clause-batch_over_by_itself
returns-clause-batch_over_by_itself c h = let e : ◌≡◌ {A = List ℕ} (1 ∷ []) [] = h.0 1 in cc

-- nobody has a share yet
pub returns-clause-batch_over_without_shares : goal.returns-clause-batch_over_without_shares
returns-clause-batch_over_without_shares c h =
    let e : ◌≡◌ {A = List ℕ} (1 ∷ []) [] = h.0 1 ∙ ap (λ (o : Option Standing). ends_due 1 (nat_lt 0 (length (shares_of o))) (later ∷ [])) (get-empty nat_cmp 1) in
    cc
