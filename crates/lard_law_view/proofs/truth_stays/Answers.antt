-- By their lemmas.
use Rattle.lard_law_view.proofs.Growth.{truth-grown, heard-grown, accepted-grown}
use Rattle.lard_law_view.proofs.truth_stays.Goals as goal

pub returns : goal.returns
returns c = record { said = truth-grown; heard = λ x y b. heard-grown x y b.recv; accepted = accepted-grown }
