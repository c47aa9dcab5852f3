use Rattle.std.proofs.Common.{◌≡◌, true, false, [], refl, arith}
use Rattle.std.specs.Prelude.{codes}
use Rattle.lard_refusals.specs.Placing.{joined_without_a_number}
use Rattle.lard_refusals.proofs.placing.servers_refuses.Goals as goal

pub returns-clause-joined_without_a_number : goal.returns-clause-joined_without_a_number
returns-clause-joined_without_a_number c h =
    let e : true ≡ false = (h joined_without_a_number [] refl).0 (codes "/a") 1 (omega arith) in
    cc
