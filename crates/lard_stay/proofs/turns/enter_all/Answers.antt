-- One more was entered, and after the last all were.
use Rattle.std.proofs.Common.{length, sym, ap, ◌∙◌, arith}
use Rattle.std.proofs.lemmas.List.{length_push}
use Rattle.lard_rules.specs.Stay.{enters}
use Rattle.lard_stay.specs.Work.{stay_env_seen, work_seen}
use Rattle.lard_stay.proofs.Entering.{entered_more, enters-more, starts_few, starts_more, starts_same}
use Rattle.lard_stay.proofs.turns.enter_all.Goals as goal

pub loop-verdict-preserved : goal.loop-verdict-preserved
loop-verdict-preserved c =
    let now = c.loop-verdict in
    let env = stay_env_seen c.args.env.now in
    let later = c.next.new.self.rest.items in
    let here = c.in_ok-here.here in
    let left = c.in-Some.ensures.steps.0 in
    let few = ap length left in
    let n = length_push now.yielded c.in-Some.verdict in record {
      entered = λ b. enters-more env now.here now.r c.in-Some.verdict later (work_seen b now.work) here (work_seen b c.enter.new.work) (c.in_ok-here.ensures.entered b)
          ∙ ap (λ vs. enters env now.here now.r vs (work_seen b now.work)) (sym left) ∙ now.invariant.entered b;
      count = omega (arith, n, few, now.invariant.count);
      all = entered_more (length now.yielded) _ c.args.work.now now.work c.enter.new.work n now.invariant.all c.in_ok-here.ensures.one;
      jobs = starts_more c.args.here now.here here c.args.work.now.jobs now.work.jobs c.enter.new.work.jobs now.invariant.jobs c.in_ok-here.ensures.jobs;
      wants = c.in_ok-here.ensures.wants ∙ now.invariant.wants;
      room = omega (arith, few, now.invariant.room);
    }

pub returns-clause-jobs : goal.returns-clause-jobs
returns-clause-jobs c = starts_few c.args.here c.loop-verdict.here c.args.work.now.jobs c.loop-verdict.work.jobs c.loop-verdict.invariant.jobs

pub returns-clause-same : goal.returns-clause-same
returns-clause-same c = starts_same c.args.here c.loop-verdict.here c.args.work.now.jobs c.loop-verdict.work.jobs c.loop-verdict.invariant.jobs
