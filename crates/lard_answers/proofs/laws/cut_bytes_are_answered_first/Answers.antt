-- The law is lemmas of proofs/Following.antt.
use Rattle.lard_answers.proofs.Following.{answers-follow, answers-end}
use Rattle.lard_answers.proofs.laws.cut_bytes_are_answered_first.Goals as goal

pub returns-clause-follow : goal.returns-clause-follow
returns-clause-follow c = answers-follow

pub returns-clause-end : goal.returns-clause-end
returns-clause-end c = answers-end
