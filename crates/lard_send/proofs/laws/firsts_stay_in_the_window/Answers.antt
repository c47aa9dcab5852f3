-- The law, by its lemma.
use Rattle.lard_send.proofs.Firsts.{next-allowed}
use Rattle.lard_send.proofs.laws.firsts_stay_in_the_window.Goals as goal

pub returns : goal.returns
returns c = next-allowed
