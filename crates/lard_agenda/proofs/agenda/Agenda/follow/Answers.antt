-- The record behind those that were noted is noted.
use Rattle.std.proofs.Common.{sym}
use Rattle.lard_agenda.proofs.Follows.{turn}
use Rattle.lard_agenda.proofs.agenda.Agenda.follow.Goals as goal

pub loop-self-preserved : goal.loop-self-preserved
loop-self-preserved c = turn c.loop-self.self c.change.new.self c.args.records.now c.index-records-self.result c.loop-self-test.true (sym c.index-records-self.is) c.in_ok-change.ensures.ok c.loop-self.invariant
