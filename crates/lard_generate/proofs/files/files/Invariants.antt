use Rattle.std.proofs.Common.{◌≡◌}
use Rattle.lard_generate.specs.Files.{listed_to, generated_file}
use Rattle.lard_generate.proofs.files.files.Given as goal

abbrev pub invariant-loop-i : goal.invariant-loop-i
invariant-loop-i l = l.files ≡ listed_to (generated_file l.sizes) l.i
