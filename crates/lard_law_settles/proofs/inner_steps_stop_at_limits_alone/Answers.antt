-- List by list.
use Rattle.lard_law_settles.proofs.SettlesLists.{completions-all, deliveries-stop, firings-stop, takes-stop}
use Rattle.lard_law_settles.proofs.inner_steps_stop_at_limits_alone.Goals as goal

pub returns-clause-takes : goal.returns-clause-takes
returns-clause-takes c = takes-stop

pub returns-clause-deliveries : goal.returns-clause-deliveries
returns-clause-deliveries c = deliveries-stop

pub returns-clause-completions : goal.returns-clause-completions
returns-clause-completions c = completions-all

pub returns-clause-firings : goal.returns-clause-firings
returns-clause-firings c = firings-stop
