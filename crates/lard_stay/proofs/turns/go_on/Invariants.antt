use Rattle.std.proofs.Common.{◌≡◌}
use Rattle.lard_rules.specs.Stay.{goes_on, work_left}
use Rattle.lard_stay.specs.Work.{IsInHandSound, stay_env_seen, work_seen}
use Rattle.lard_stay.proofs.turns.go_on.Given as goal

-- going on from here ends as it did from the start
abbrev pub invariant-turns : goal.invariant-turns
invariant-turns l = record {
  turns : goes_on (stay_env_seen l.env) (work_seen l.endpoint l.work) ≡ goes_on (stay_env_seen l.env) (work_seen l.fn.endpoint l.fn.work);
  sound : IsInHandSound l.endpoint l.work;
  jobs : l.work.jobs ≡ l.fn.work.jobs;
  wants : l.work.wants ≡ l.fn.work.wants;
}

abbrev pub decreases-turns : goal.decreases-turns
decreases-turns l = work_left (work_seen l.endpoint l.work)
