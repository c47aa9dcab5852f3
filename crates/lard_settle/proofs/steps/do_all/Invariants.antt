-- What was done and what is left to do are all of them.
use Rattle.std.proofs.Common.{◌≡◌, false}
use Rattle.std.specs.List.{AllByRecursion}
use Rattle.std.specs.Vec.Iter.{into_iter_items}
use Rattle.lard_rules.specs.Bounds.{HasRule}
use Rattle.lard_settling.specs.Settling.{IsFrontOf, all_inner}
use Rattle.lard_settle.proofs.steps.do_all.Given as goal

abbrev pub invariant-loop-event : goal.invariant-loop-event
invariant-loop-event l = record {
  does : all_inner l.fn.world.machine l.fn.events ≡ all_inner l.world.machine (into_iter_items l.event-iterator);
  ruled : AllByRecursion HasRule (into_iter_items l.event-iterator);
  usable : l.world.spoiled ≡ false;
  grows : IsFrontOf l.fn.world.machine.journal l.world.machine.journal;
  config : l.world.machine.config ≡ l.fn.world.machine.config;
}
