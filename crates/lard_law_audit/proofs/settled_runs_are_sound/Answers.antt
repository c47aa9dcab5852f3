-- Since folds say the same of both journals, and each run with settles has such a journal.
use Rattle.lard_law_audit.proofs.Running.{settled-runs-sound}
use Rattle.lard_law_audit.proofs.Settled.{settled-sound}
use Rattle.lard_law_audit.proofs.settled_runs_are_sound.Goals as goal

pub returns : goal.returns
returns c = record { lawful = settled-sound; runs = settled-runs-sound }
