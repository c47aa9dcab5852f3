-- No node has more than all connections with all their shares.
use Rattle.std.proofs.Common.{◌≡◌, arith, length, ap}
use Rattle.lard_loads.specs.Tally.{Tally}
use Rattle.lard_loads.proofs.Tallies.{load-most}
use Rattle.lard_loads.proofs.loads.Loads.of.Goals as goal

pub returns-clause-most : goal.returns-clause-most
returns-clause-most c =
    let nodes : length c.self.inside.running ≡ c.args.self.now.nodes = ap (λ (t : Tally). t.nodes) c.self.view_is in
    let value = c.number.ensures.value in
    let some = c.number.ensures.range.0 in
    let node = c.requires.node in
    let running = c.self.invariant.running c.number.result some (omega (arith, nodes, value, node)) in
    let most = load-most c.self.invariant c.number.result in
    let load = c.load.ensures in
    omega (arith, running, most, load)
