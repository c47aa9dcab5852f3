use Rattle.std.proofs.Common.{◌≤◌, [], refl, arith}
use Rattle.lard_refusals.specs.Placing.{three_at_one_node}
use Rattle.lard_refusals.proofs.placing.most_by_room_refuses.Goals as goal

pub returns-clause-three_at_one_node : goal.returns-clause-three_at_one_node
returns-clause-three_at_one_node c h = let e : 2520 ≤ 1680 = h three_at_one_node [] refl 1 in omega arith
