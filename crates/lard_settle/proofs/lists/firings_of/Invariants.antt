-- What was listed and what is left are all of them.
use Rattle.std.proofs.Common.{◌≡◌, ◌++◌, filter}
use Rattle.std.specs.Vec.Iter.{into_iter_items}
use Rattle.lard_settling.specs.Settling.{is_own_seat}
use Rattle.lard_settle.proofs.Ruled.{timers}
use Rattle.lard_settle.proofs.lists.firings_of.Given as goal

abbrev pub invariant-loop-place : goal.invariant-loop-place
invariant-loop-place l = l.events ++ timers (filter is_own_seat (into_iter_items l.place-iterator)) ≡ timers (filter is_own_seat l.fn.seats)
