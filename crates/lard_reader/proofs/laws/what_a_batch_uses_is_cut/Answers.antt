-- The law is lemmas of proofs/Taken.antt, and one of the answers.
use Rattle.lard_answers.proofs.Firsts.{verdicts-closed}
use Rattle.lard_reader.proofs.Taken.{batch-verdicts, batch-cut, batch-answers, batch-rest}
use Rattle.lard_reader.proofs.laws.what_a_batch_uses_is_cut.Goals as goal

pub returns-clause-pieces : goal.returns-clause-pieces
returns-clause-pieces c = batch-verdicts

pub returns-clause-cut : goal.returns-clause-cut
returns-clause-cut c = batch-cut c.what_is_taken_is_cut.ensures.pairs

pub returns-clause-open : goal.returns-clause-open
returns-clause-open c = batch-answers c.what_is_taken_is_cut.ensures.pairs

pub returns-clause-closed : goal.returns-clause-closed
returns-clause-closed c = verdicts-closed

pub returns-clause-left : goal.returns-clause-left
returns-clause-left c = batch-rest
