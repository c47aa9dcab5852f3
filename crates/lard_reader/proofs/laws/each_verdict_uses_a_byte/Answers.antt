use Rattle.lard_reader.proofs.Used.{batch-used}
use Rattle.lard_reader.proofs.laws.each_verdict_uses_a_byte.Goals as goal

pub returns-clause-each : goal.returns-clause-each
returns-clause-each c = λ n q. (batch-used n q).0

pub returns-clause-within : goal.returns-clause-within
returns-clause-within c = λ n q. (batch-used n q).1
