use Rattle.std.proofs.Common.{◌≡◌, ◌+◌, ◌^◌, ◌<◌, ◌≤◌, length}
use Rattle.std.specs.Vec.Iter.{into_iter_items}
use Rattle.lard_rules.specs.Stay.{starts_at, tagged}
use Rattle.lard_stay.specs.Work.{HasEntered, stay_env_seen, work_seen}
use Rattle.lard_stay.proofs.coming.tag.Given as goal

-- those that were entered and those that are left are all
abbrev pub invariant-loop-entry : goal.invariant-loop-entry
invariant-loop-entry l = record {
  tagged : starts_at (stay_env_seen l.env) l.nodes l.at l.r (into_iter_items l.entry-iterator) (work_seen l.endpoint l.work) ≡ tagged (stay_env_seen l.env) l.nodes (work_seen l.endpoint l.fn.work);
  count : length l.yielded + length (into_iter_items l.entry-iterator) ≡ length l.fn.work.batch;
  all : HasEntered (length l.yielded) l.initial.work l.work;
  within : l.at ≤ length l.yielded;
  room : l.r + length (into_iter_items l.entry-iterator) < 2 ^ 31 + 1;
}
