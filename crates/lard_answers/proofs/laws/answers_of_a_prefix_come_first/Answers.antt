-- The law is lemmas of proofs/Growing.antt.
use Rattle.lard_answers.proofs.Growing.{verdicts-grow, answers-grow, answer_bytes-grow}
use Rattle.lard_answers.proofs.laws.answers_of_a_prefix_come_first.Goals as goal

pub returns-clause-verdicts : goal.returns-clause-verdicts
returns-clause-verdicts c = verdicts-grow

pub returns-clause-answers : goal.returns-clause-answers
returns-clause-answers c = answers-grow

pub returns-clause-bytes : goal.returns-clause-bytes
returns-clause-bytes c = answer_bytes-grow
