-- The law is lemmas of proofs/Numbered.antt.
use Rattle.lard_answers.proofs.Numbered.{goods-each, goods-rise, goods-grow}
use Rattle.lard_answers.proofs.laws.goods_are_requests_for_files.Goals as goal

pub returns-clause-each : goal.returns-clause-each
returns-clause-each c = goods-each

pub returns-clause-order : goal.returns-clause-order
returns-clause-order c = goods-rise

pub returns-clause-prefix : goal.returns-clause-prefix
returns-clause-prefix c = goods-grow
