-- What was listed and what is left are all of them.
use Rattle.std.proofs.Common.{◌≡◌, ◌++◌, map}
use Rattle.std.specs.Vec.Iter.{into_iter_items}
use Rattle.lard_base.specs.declared.event.Event.TheVariants as event
use Rattle.lard_settle.proofs.lists.deliveries_of.Given as goal

abbrev pub invariant-loop-k : goal.invariant-loop-k
invariant-loop-k l = l.events ++ map event.Deliver (into_iter_items l.k-iterator) ≡ map event.Deliver l.fn.packets
