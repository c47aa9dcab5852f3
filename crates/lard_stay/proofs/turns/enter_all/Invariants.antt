use Rattle.std.proofs.Common.{◌≡◌, ◌+◌, ◌^◌, ◌<◌, length}
use Rattle.std.specs.Vec.Iter.{into_iter_items}
use Rattle.lard_endpoint.specs.Control.{ControlBlock}
use Rattle.lard_rules.specs.Stay.{enters}
use Rattle.lard_stay.specs.Work.{HasEntered, StartsOne, stay_env_seen, work_seen}
use Rattle.lard_stay.proofs.turns.enter_all.Given as goal

-- those that were entered and those that are left are all
abbrev pub invariant-loop-verdict : goal.invariant-loop-verdict
invariant-loop-verdict l = record {
  entered : (b : ControlBlock) → enters (stay_env_seen l.env) l.here l.r (into_iter_items l.verdict-iterator) (work_seen b l.work)
      ≡ enters (stay_env_seen l.env) l.fn.here (l.fn.work.service.count + 1) l.fn.verdicts (work_seen b l.fn.work);
  count : length l.yielded + length (into_iter_items l.verdict-iterator) ≡ length l.fn.verdicts;
  all : HasEntered (length l.yielded) l.fn.work l.work;
  jobs : StartsOne l.fn.here l.here l.fn.work.jobs l.work.jobs;
  wants : l.work.wants ≡ l.fn.work.wants;
  room : l.r + length (into_iter_items l.verdict-iterator) < 2 ^ 31 + 1;
}
