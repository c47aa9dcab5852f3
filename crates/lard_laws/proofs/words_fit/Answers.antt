-- By what each rule keeps.
use Rattle.lard_laws.proofs.WindowsWordRuns.{words-fit}
use Rattle.lard_laws.proofs.words_fit.Goals as goal

pub returns : goal.returns
returns c = words-fit
