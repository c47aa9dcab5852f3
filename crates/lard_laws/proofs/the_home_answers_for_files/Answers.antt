-- By what each rule lets a connection's records say.
use Rattle.lard_laws.proofs.BackingRuns.{home-answers}
use Rattle.lard_laws.proofs.the_home_answers_for_files.Goals as goal

pub returns : goal.returns
returns c = record { answers = home-answers }
