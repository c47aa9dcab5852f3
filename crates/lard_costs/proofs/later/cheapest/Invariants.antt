-- What is left of the members gives the cheapest of all.
use Rattle.std.proofs.Common.{◌≡◌, ◌≤◌}
use Rattle.lard_costs.specs.Costs.{cost_at}
use Rattle.lard_costs.specs.Later.{cheapest, members_of}
use Rattle.lard_costs.proofs.Members.{members_from}
use Rattle.lard_costs.proofs.later.cheapest.Given as goal

abbrev pub invariant-loop-number : goal.invariant-loop-number
invariant-loop-number l = record {
  rest : cheapest (cost_at l.loads l.cfg l.set) l.best (members_from l.set l.number) ≡ cheapest (cost_at l.loads l.cfg l.set) l.initial.best (members_of l.set);
  within : l.best ≤ l.loads.nodes;
}
