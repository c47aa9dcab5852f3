-- By what each step tells of the contents that it sends.
use Rattle.lard_laws.proofs.WaysSteps.{contents-are-files}
use Rattle.lard_laws.proofs.contents_are_files.Goals as goal

pub returns : goal.returns
returns c = record { contents = contents-are-files }
