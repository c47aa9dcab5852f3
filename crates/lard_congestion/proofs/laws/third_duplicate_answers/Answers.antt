-- The law is a lemma of proofs/Kept.antt.
use Rattle.lard_congestion.proofs.Kept.{third-alone}
use Rattle.lard_congestion.proofs.laws.third_duplicate_answers.Goals as goal

pub returns : goal.returns
returns c = third-alone
