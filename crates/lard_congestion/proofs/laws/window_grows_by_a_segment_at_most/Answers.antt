-- The law is two lemmas of proofs/Kept.antt.
use Rattle.lard_congestion.proofs.Kept.{grows-least, grows-most}
use Rattle.lard_congestion.proofs.laws.window_grows_by_a_segment_at_most.Goals as goal

pub returns-clause-least : goal.returns-clause-least
returns-clause-least c = grows-least

pub returns-clause-most : goal.returns-clause-most
returns-clause-most c = grows-most
