-- No more are admitted than have a slot.
use Rattle.std.proofs.Common.{arith}
use Rattle.lard_loads.proofs.Standings.{len-standings}
use Rattle.lard_loads.proofs.loads.Loads.admitted.Goals as goal

pub returns-clause-most : goal.returns-clause-most
returns-clause-most c =
    let most = len-standings c.self.inside.slots.items in
    let all = c.self.invariant.all_slots in
    let e = c.self.invariant.counted in
    omega (arith, most, all, e)
