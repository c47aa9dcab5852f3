-- The law is lemmas of proofs/Cutting.antt and proofs/Division.antt.
use Rattle.lard_block.proofs.Cutting.{block-stays, long-stays, beyond}
use Rattle.lard_block.proofs.Division.{grows}
use Rattle.lard_block.proofs.laws.what_follows_changes_nothing.Goals as goal

pub returns-clause-block : goal.returns-clause-block
returns-clause-block c = λ q z skip len e. block-stays q skip len e z

pub returns-clause-long : goal.returns-clause-long
returns-clause-long c = λ q z skip e. long-stays q skip e z

pub returns-clause-beyond : goal.returns-clause-beyond
returns-clause-beyond c = beyond

pub returns-clause-blocks : goal.returns-clause-blocks
returns-clause-blocks c = grows
