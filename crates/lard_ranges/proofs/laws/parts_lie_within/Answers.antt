-- The law is a lemma of proofs/Satisfied.antt.
use Rattle.lard_ranges.proofs.Satisfied.{within}
use Rattle.lard_ranges.proofs.laws.parts_lie_within.Goals as goal

pub returns : goal.returns
returns c = within
