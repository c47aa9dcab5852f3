-- By what the laws let stand.
use Rattle.lard_law_audit.proofs.Sounding.{lawful-sound, runs-sound}
use Rattle.lard_law_audit.proofs.runs_are_sound.Goals as goal

pub returns : goal.returns
returns c = record { lawful = lawful-sound; runs = runs-sound }
