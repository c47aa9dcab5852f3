-- The law is two lemmas of proofs/Division.antt.
use Rattle.lard_block.proofs.Division.{divided, unique}
use Rattle.lard_block.proofs.laws.division_is_unique.Goals as goal

pub returns-clause-divides : goal.returns-clause-divides
returns-clause-divides c = divided

pub returns-clause-unique : goal.returns-clause-unique
returns-clause-unique c = unique
