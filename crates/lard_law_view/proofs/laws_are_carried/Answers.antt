-- By what each step keeps.
use Rattle.std.specs.Prelude.{◌≡◌, true}
use Rattle.lard_law_view.specs.Prelude.{HoldsTest}
use Rattle.lard_law_view.proofs.Carried.{carried}
use Rattle.lard_law_view.proofs.InSteps.{carried-steps}
use Rattle.lard_law_view.proofs.laws_are_carried.Goals as goal

pub returns : goal.returns
returns c = record {
  laws = λ config files given inv law always. carried config files (HoldsTest given) (HoldsTest inv) law always;
  step_laws = λ config files given must own_must local law always. carried-steps config files (HoldsTest given) (λ past s. must past s ≡ true) (λ c past s. own_must c past s ≡ true) local law always;
}
