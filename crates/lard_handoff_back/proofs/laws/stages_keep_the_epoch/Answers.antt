-- The law is the lemma of proofs/Stages.antt.
use Rattle.lard_handoff_back.proofs.Stages.{stages_keep}
use Rattle.lard_handoff_back.proofs.laws.stages_keep_the_epoch.Goals as goal

pub returns : goal.returns
returns c = stages_keep
