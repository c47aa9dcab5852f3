use Rattle.std.proofs.Common.{◌≤◌, [], refl, arith, List}
use Rattle.lard_law_view.specs.Prelude.{Rec, room_of}
use Rattle.lard_counts.specs.Ledger.{ledger_admitted, ledger}
use Rattle.lard_refusals.specs.Admission.{one_too_many, third_waits}
use Rattle.lard_refusals.specs.Refusals.{three_nodes}
use Rattle.lard_refusals.proofs.Moments.{at-every-moment}
use Rattle.lard_refusals.proofs.admission.room_refuses.Goals as goal

pub returns-clause-one_too_many : goal.returns-clause-one_too_many
returns-clause-one_too_many c h = let many : 3 ≤ 2 = h one_too_many [] refl in omega arith

-- none, one, two and two are admitted
pub returns-clause-third_waits : goal.returns-clause-third_waits
returns-clause-third_waits c past later cut =
    at-every-moment (λ (past : List Rec). ledger_admitted (ledger three_nodes past) ≤ room_of three_nodes) third_waits (omega arith, (omega arith, (omega arith, omega arith))) past later cut
