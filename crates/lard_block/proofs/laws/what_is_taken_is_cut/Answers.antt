-- The law is lemmas of proofs/Division.antt and proofs/Skips.antt.
use Rattle.lard_block.proofs.Division.{cuts-nothing, cuts-block, cuts-join}
use Rattle.lard_block.proofs.Skips.{cuts-pairs}
use Rattle.lard_block.proofs.laws.what_is_taken_is_cut.Goals as goal

pub returns-clause-nothing : goal.returns-clause-nothing
returns-clause-nothing c = cuts-nothing

pub returns-clause-pairs : goal.returns-clause-pairs
returns-clause-pairs c = cuts-pairs

pub returns-clause-block : goal.returns-clause-block
returns-clause-block c = cuts-block

pub returns-clause-joined : goal.returns-clause-joined
returns-clause-joined c = cuts-join
