-- The law is lemmas of proofs/Growing.antt.
use Rattle.lard_answers.proofs.Growing.{answers-nothing, answers-alone}
use Rattle.lard_answers.proofs.laws.one_block_has_one_answer.Goals as goal

pub returns-clause-nothing : goal.returns-clause-nothing
returns-clause-nothing c = answers-nothing

pub returns-clause-block : goal.returns-clause-block
returns-clause-block c = answers-alone
