-- By what holds of the dispatcher's calls.
use Rattle.lard_law_connections.proofs.LineBounds.{loads-near-the-thresholds, loads-within-the-room}
use Rattle.lard_law_connections.proofs.the_greatest_load_is_told.Goals as goal

pub returns-clause-room : goal.returns-clause-room
returns-clause-room c = loads-within-the-room

pub returns-clause-thresholds : goal.returns-clause-thresholds
returns-clause-thresholds c = loads-near-the-thresholds
