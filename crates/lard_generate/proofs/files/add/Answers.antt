-- The path of a file is short.
use Rattle.std.proofs.Common.{length, ap, ◌∙◌, arith}
use Rattle.lard_generate.proofs.Paths.{length-path_of}
use Rattle.lard_generate.proofs.files.add.Goals as goal

pub add-requires-clause-short_path : goal.add-requires-clause-short_path
add-requires-clause-short_path c = omega (arith, ap length (c.deref.ensures.value ∙ c.in_ok-path.ensures), length-path_of c.args.i (omega arith))
