use Rattle.std.proofs.Common.{◌≡◌, ℕ, refl, arith}
use Rattle.std.specs.Prelude.{codes}
use Rattle.lard_refusals.proofs.Responses.{for-nobody, first-for-a}
use Rattle.lard_refusals.proofs.service.named_refuses.Goals as goal

pub returns-clause-second_request_assigned_first : goal.returns-clause-second_request_assigned_first
returns-clause-second_request_assigned_first c h = let e : ◌≡◌ {A = ℕ} 2 1 = (h.1.0 refl).1 in omega arith

pub returns-clause-assigned_first_again : goal.returns-clause-assigned_first_again
returns-clause-assigned_first_again c h = let e : ◌≡◌ {A = ℕ} 1 0 = (h.1.1.0 refl).0 in omega arith

pub returns-clause-job_for_no_request : goal.returns-clause-job_for_no_request
returns-clause-job_for_no_request c h = for-nobody 1 (codes "/a") (h.0 refl)

pub returns-clause-assigned_first_once : goal.returns-clause-assigned_first_once
returns-clause-assigned_first_once c = (tt, ((λ untouched. (refl, refl, first-for-a)), tt))
