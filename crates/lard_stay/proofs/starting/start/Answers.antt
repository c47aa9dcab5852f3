-- It is started elsewhere, since the node is another.
use Rattle.std.proofs.Common.{sym, ◌∙◌}
use Rattle.std.proofs.lemmas.Result.{on_ok_weaker}
use Rattle.lard_stay.specs.Work.{stay_env_seen, work_seen}
use Rattle.lard_stay.proofs.Entering.{started-there}
use Rattle.lard_stay.proofs.starting.start.Goals as goal

pub returns-clause-started : goal.returns-clause-started
returns-clause-started c =
    on_ok_weaker c.start_there.result
    (λ h b. h b ∙ started-there (stay_env_seen c.args.env.now) c.args.node c.args.r c.args.path c.args.verdict (work_seen b c.args.work.now)
    (λ e. c.if-number.false (c.number.ensures.value ∙ e ∙ sym c.number-2.ensures.value)))
    c.start_there.ensures.started
