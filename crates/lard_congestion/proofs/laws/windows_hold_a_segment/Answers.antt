-- The law is a lemma of proofs/Kept.antt.
use Rattle.lard_congestion.proofs.Kept.{segments-held}
use Rattle.lard_congestion.proofs.laws.windows_hold_a_segment.Goals as goal

pub returns : goal.returns
returns c = segments-held
