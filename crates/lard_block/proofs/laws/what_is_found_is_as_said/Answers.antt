-- The law is two lemmas of proofs/Said.antt.
use Rattle.lard_block.proofs.Said.{said, nothing_else}
use Rattle.lard_block.proofs.laws.what_is_found_is_as_said.Goals as goal

pub returns-clause-said : goal.returns-clause-said
returns-clause-said c = said

pub returns-clause-nothing_else : goal.returns-clause-nothing_else
returns-clause-nothing_else c = nothing_else
