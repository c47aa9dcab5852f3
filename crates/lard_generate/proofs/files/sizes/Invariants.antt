use Rattle.std.proofs.Common.{◌≡◌}
use Rattle.lard_generate.specs.Draws.{each}
use Rattle.lard_generate.specs.Files.{drawn_size}
use Rattle.lard_generate.proofs.files.sizes.Given as goal

abbrev pub invariant-loop-i : goal.invariant-loop-i
invariant-loop-i l = each drawn_size l._i l.initial.draws ≡ (l.sizes, l.draws)
