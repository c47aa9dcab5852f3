-- By what each rule does.
use Rattle.lard_laws.proofs.AsksRuns.{asks-answered, batches-end}
use Rattle.lard_laws.proofs.asks_are_answered.Goals as goal

pub returns-clause-answers : goal.returns-clause-answers
returns-clause-answers c = asks-answered

pub returns-clause-batches : goal.returns-clause-batches
returns-clause-batches c = batches-end
