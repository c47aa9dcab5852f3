-- The law is a lemma of proofs/Answered.antt.
use Rattle.lard_generate.proofs.Answered.{counted}
use Rattle.lard_generate.proofs.laws.answers_are_counted.Goals as goal

pub returns : goal.returns
returns c = counted
