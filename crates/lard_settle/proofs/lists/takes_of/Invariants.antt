-- What was listed and what is left are all of them.
use Rattle.std.proofs.Common.{◌≡◌, ◌++◌, filter, map}
use Rattle.std.specs.Vec.Iter.{into_iter_items}
use Rattle.lard_base.specs.declared.event.Event.TheVariants as event
use Rattle.lard_settling.specs.Left.{is_holder}
use Rattle.lard_settle.proofs.lists.takes_of.Given as goal

abbrev pub invariant-loop-c : goal.invariant-loop-c
invariant-loop-c l = l.events ++ map event.Take (filter (is_holder l.world.machine) (into_iter_items l.c-iterator)) ≡ map event.Take (filter (is_holder l.world.machine) l.fn.clients)
