-- No set was changed after time 0.
use Rattle.lard_dispatch.specs.Sound.{AreBefore}
use Rattle.lard_tests_policy.proofs.dispatch.first_wrong.Given as goal

abbrev pub invariant-rows : goal.invariant-rows
invariant-rows l = AreBefore 0 l.dispatch.books.sets
