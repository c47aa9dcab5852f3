-- The Ask changes neither the jobs nor the contents that are wanted.
use Rattle.std.proofs.Common.{◌+◌, ◌≤◌, length, List, sym, subst, ◌∙◌}
use Rattle.lard_disk.specs.declared.disk.Job.{Job}
use Rattle.lard_seq.specs.Seq.{one_if}
use Rattle.lard_stay.proofs.turns.read.Goals as goal

pub returns-clause-jobs : goal.returns-clause-jobs
returns-clause-jobs c =
    subst (λ (js : List Job). length js ≤ length c.args.work.now.jobs + one_if c.args.here) (sym c.in_ok-ask.ensures.one.jobs) c.in_ok-enter_all.ensures.jobs

pub returns-clause-same : goal.returns-clause-same
returns-clause-same c = λ e. c.in_ok-ask.ensures.one.jobs ∙ c.in_ok-enter_all.ensures.same e

pub returns-clause-wants : goal.returns-clause-wants
returns-clause-wants c = c.in_ok-ask.ensures.one.wants ∙ c.in_ok-enter_all.ensures.wants
