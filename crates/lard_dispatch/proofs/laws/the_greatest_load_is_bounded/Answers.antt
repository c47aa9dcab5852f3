-- The laws are the lemmas of proofs/Shares.antt and Thresholds.antt.
use Rattle.lard_dispatch.proofs.Shares.{within-the-room}
use Rattle.lard_dispatch.proofs.Thresholds.{near-the-thresholds}
use Rattle.lard_dispatch.proofs.laws.the_greatest_load_is_bounded.Goals as goal

pub returns-clause-room : goal.returns-clause-room
returns-clause-room c = within-the-room

pub returns-clause-thresholds : goal.returns-clause-thresholds
returns-clause-thresholds c = near-the-thresholds
