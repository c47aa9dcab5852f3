use Rattle.std.proofs.Common.{◌≡◌, ℕ, arith}
use Rattle.lard_refusals.proofs.admission.line_refuses.Goals as goal

pub returns-clause-line_before_an_empty_room : goal.returns-clause-line_before_an_empty_room
returns-clause-line_before_an_empty_room c h = let full : ◌≡◌ {A = ℕ} 0 2 = h.before.1.0 (omega arith) in omega arith
