-- The law is the lemma of proofs/Whole.antt.
use Rattle.lard_message.proofs.Whole.{within_packet}
use Rattle.lard_message.proofs.laws.fits_a_packet.Goals as goal

pub returns : goal.returns
returns c = within_packet
