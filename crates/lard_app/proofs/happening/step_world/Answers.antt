-- The agenda is one of the journal that has grown.
use Rattle.lard_app.proofs.Stopped.{step-agenda}
use Rattle.lard_app.proofs.happening.step_world.Goals as goal

pub returns-clause-agenda : goal.returns-clause-agenda
returns-clause-agenda c = step-agenda c.args.agenda.now c.args.world.now.machine c.step.new.self.machine c.args.event c.step.result c.agendas_go_on.ensures.more c.requires.agenda c.step.ensures.step
