use Rattle.std.proofs.Common.{◌≡◌}
use Rattle.lard_generate.specs.Files.{generated_content}
use Rattle.lard_generate.proofs.files.content.Given as goal

abbrev pub invariant-loop-j : goal.invariant-loop-j
invariant-loop-j l = l.content.items ≡ generated_content l.i l.j
