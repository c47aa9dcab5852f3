-- The tests of the rules decide what they say.
use Rattle.lard_audit.proofs.Meaning.{sound-means}
use Rattle.lard_audit.proofs.laws.sound_means.Goals as goal

pub returns : goal.returns
returns c = sound-means
