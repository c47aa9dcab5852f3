-- None were noted, some, or all.
use Rattle.lard_agenda.proofs.Follows.{begun, still, whole}
use Rattle.lard_agenda.proofs.laws.agendas_go_on.Goals as goal

pub returns-clause-begin : goal.returns-clause-begin
returns-clause-begin c = begun

pub returns-clause-more : goal.returns-clause-more
returns-clause-more c = still

pub returns-clause-all : goal.returns-clause-all
returns-clause-all c = whole
