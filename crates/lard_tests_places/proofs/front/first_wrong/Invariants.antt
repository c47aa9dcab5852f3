use Rattle.lard_dispatch.specs.Sound.{AreBefore}
use Rattle.lard_rules.specs.FrontSound.{IsFrontSound}
use Rattle.lard_tests_places.proofs.front.first_wrong.Given as goal

-- the state is sound before each input
abbrev pub invariant-inputs : goal.invariant-inputs
invariant-inputs l = record {
  sound : IsFrontSound l.state;
  clock : AreBefore l.setting.now.0 l.state.dispatch.books.sets;
}
