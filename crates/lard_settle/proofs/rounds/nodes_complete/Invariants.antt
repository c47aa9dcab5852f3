-- The nodes that completed their jobs and those that are left are all of them.
use Rattle.std.proofs.Common.{◌≡◌, ◌+◌, ◌-◌, false}
use Rattle.lard_settling.specs.Settling.{IsFrontOf, nodes_complete}
use Rattle.lard_settle.proofs.rounds.nodes_complete.Given as goal

abbrev pub invariant-loop-at : goal.invariant-loop-at
invariant-loop-at l = record {
  does : nodes_complete l.fn.world.machine 1 l.fn.world.machine.config.nodes ≡ nodes_complete l.world.machine (l.at + 1) (l.fn.world.machine.config.nodes - l.at);
  usable : l.world.spoiled ≡ false;
  grows : IsFrontOf l.fn.world.machine.journal l.world.machine.journal;
  config : l.world.machine.config ≡ l.fn.world.machine.config;
}
