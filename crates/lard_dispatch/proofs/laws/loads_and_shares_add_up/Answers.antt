-- The laws are the lemmas of proofs/Counted.antt and Shares.antt.
use Rattle.lard_dispatch.proofs.Counted.{loads-add-up}
use Rattle.lard_dispatch.proofs.Shares.{within-wholes}
use Rattle.lard_dispatch.proofs.laws.loads_and_shares_add_up.Goals as goal

pub returns-clause-all : goal.returns-clause-all
returns-clause-all c = loads-add-up

pub returns-clause-shares : goal.returns-clause-shares
returns-clause-shares c = within-wholes
